use Rattle.step_chains.proofs.Cited.{ap, sym, ◌∙◌, Sizes, cell_at}
use Rattle.step_chains.proofs.Reading.{looks_link}
use Rattle.step_chains.proofs.loads.load_link.Goals as goal

pub load-requires : goal.load-requires
load-requires g c = (c.requires.0, c.cell_place-place.ensures.1, looks_link g.P.GracePlan.QSBR g.K.ChainRule.allows _ _ _ _ _ c.requires.1)

pub returns-clause-next : goal.returns-clause-next
returns-clause-next g c o may = c.load.ensures.2.3 o c.args.cell may (c.cell_place-place.ensures.0 ∙ ap (λ (k : Sizes). cell_at k c.args.cell 1) (sym c.requires.1))
