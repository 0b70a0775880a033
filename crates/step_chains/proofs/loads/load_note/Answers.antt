use Rattle.step_chains.proofs.Cited.{ap, sym, ◌∙◌, arith, Sizes, note_at}
use Rattle.step_chains.proofs.Reading.{looks_note}
use Rattle.step_chains.proofs.loads.load_note.Goals as goal

pub load-requires : goal.load-requires
load-requires g c = (c.requires.0, c.note_place-place.ensures.1, looks_note g.P.GracePlan.QSBR g.K.ChainRule.allows _ _ _ _ _ c.requires.1)

pub returns-clause-note : goal.returns-clause-note
returns-clause-note g c = let sized = c.args.table.now.sized.2 in let low = c.requires.2 in let sizes = ap (λ (k : Sizes). k.chains) c.requires.1 in
    c.load.ensures.2.3 c.args.chain (omega arith) (c.note_place-place.ensures.0 ∙ ap (λ (k : Sizes). note_at k c.args.chain) (sym c.requires.1))
