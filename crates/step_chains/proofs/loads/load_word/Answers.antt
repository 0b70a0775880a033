use Rattle.step_chains.proofs.Cited.{ap, sym, ◌∙◌, ◌+◌, Sizes, cell_at}
use Rattle.step_chains.proofs.Reading.{looks_word}
use Rattle.step_chains.proofs.loads.load_word.Goals as goal

pub load-requires : goal.load-requires
load-requires g c = (c.requires.0, c.cell_place-place.ensures.1, looks_word g.P.GracePlan.QSBR g.K.ChainRule.allows _ _ _ _ _ c.requires.1)

pub returns-clause-word : goal.returns-clause-word
returns-clause-word g c o may = c.load.ensures.2.3 o c.args.cell c.args.index may c.requires.3 (c.cell_place-place.ensures.0 ∙ ap (λ (k : Sizes). cell_at k c.args.cell (c.args.index + 2)) (sym c.requires.1))
