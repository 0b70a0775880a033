use Rattle.step_records.proofs.Cited.{ℕ, ◌∙◌, ap, sym, cell_at}
use Rattle.step_records.proofs.Records.{looks_number}
use Rattle.step_records.proofs.steps.load_number.Goals as goal

pub load-requires : goal.load-requires
load-requires g c = let right = c.requires.right in let key = c.args.table.now.words.shared.key in
    (c.requires.seat.0, c.cell_place-place.ensures.1, looks_number g.P.GracePlan.QSBR g.K.ChainRule.allows _ _ _ _ _ right.0 (c.cell_place-place.ensures.0 ∙ ap (λ (i : ℕ). cell_at key i 0) (sym right.1)))
