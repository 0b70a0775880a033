use Rattle.step_grace.proofs.Cited.{ℕ, subst, looks_in, before_in}
use Rattle.step_grace.specs.Periods.{TellsAllEnded}
use Rattle.step_grace.proofs.Periods.{ends_period}
use Rattle.step_grace.proofs.steps.store_even.Goals as goal

pub store-requires : goal.store-requires
store-requires g c = (
  c.requires.seat,
  c.seq_place-place.ensures.1,
  rw (c.seq_place-place.ensures.0) (rw (c.requires.right.1) (ends_period g.P.GracePlan.QSBR g.K.ChainRule.allows _ _ _ _ _ _ _ _ c.requires.right.0
      (subst (λ (n : ℕ). TellsAllEnded g.P.GracePlan.QSBR n (before_in c.args.seat.now.me.0.grace) (looks_in c.args.seat.now.me.0.grace)) c.args.table.now.sized.0 c.requires.loads))),
)

pub returns-clause-ended : goal.returns-clause-ended
returns-clause-ended g c = (c.store.ensures.2 _ _ _ _ c.requires.right.0).0

pub returns-clause-cleared : goal.returns-clause-cleared
returns-clause-cleared g c = (c.store.ensures.2 _ _ _ _ c.requires.right.0).1

pub returns-clause-words : goal.returns-clause-words
returns-clause-words g c = let told = c.store.ensures.2 _ _ _ _ c.requires.right.0 in (told.2, told.3)
