use Rattle.step_grace.proofs.Cited.{ℕ, ◌∷◌, subst, [], Works, looks_in, before_in, seq_in, present_in}
use Rattle.step_grace.specs.Periods.{GraceBecomes}
use Rattle.step_grace.proofs.Periods.{looks_word}
use Rattle.step_grace.proofs.steps.load_slot.Goals as goal

pub load-requires : goal.load-requires
load-requires g c = (c.requires.seat.0, c.slot_place-place.ensures.1, looks_word g.P.GracePlan.QSBR g.K.ChainRule.allows _ _ _ _ _ _ _ _ _ c.requires.right)

pub returns-clause-looked : goal.returns-clause-looked
returns-clause-looked g c = let old = c.args.seat.now.me.0.grace in
    subst (λ (z : ℕ). GraceBecomes g.P.GracePlan.QSBR g.K.ChainRule.allows (Works (seq_in old) (present_in old) (before_in old) ((z, c.load.result) ∷ looks_in old)) [] c.args.seat.now.me c.load.new.seat.me) c.slot_place-place.ensures.0 (c.load.ensures.2 _ _ _ _ c.requires.right)
