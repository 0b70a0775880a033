use Rattle.step_records.proofs.Cited.{◌∙◌, ap, sym, refl, arith, Sizes, cell_at}
use Rattle.step_records.proofs.Records.{takes}
use Rattle.step_records.proofs.steps.take_cell.Goals as goal

pub compare_exchange-requires : goal.compare_exchange-requires
compare_exchange-requires g c = let seat = c.requires.seat in let free = c.requires.free in
    (seat.0, c.cell_place-place.ensures.1, takes g.P.GracePlan.QSBR g.K.ChainRule.allows _ _ _ _ _ c.args.cell _ _ (omega arith) c.cell_place-place.ensures.0 seat.1 free.0 free.1)

pub returns-clause-taken : goal.returns-clause-taken
returns-clause-taken g c found = let place = c.cell_place-place.ensures.0 in
    rw (sym place) (c.compare_exchange.ensures.2.0 found c.args.cell c.args.number (place ∙ ap (λ (k : Sizes). cell_at k c.args.cell 0) (sym c.requires.seat.1)) refl)

pub returns-clause-missed : goal.returns-clause-missed
returns-clause-missed g c = rw (sym c.cell_place-place.ensures.0) c.compare_exchange.ensures.2.1
