use Rattle.step_records.proofs.Cited.{retired_word, ℕ, ◌∙◌, ap, sym, cell_at}
use Rattle.step_records.proofs.Ends.{retires}
use Rattle.step_records.proofs.fates.store_retire.Goals as goal

pub store-requires : goal.store-requires
store-requires g c = let right = c.requires.right in let key = c.args.table.now.words.shared.key in
    (c.requires.seat.0, c.cell_place-place.ensures.1, retires g.P.GracePlan.QSBR g.K.ChainRule.allows _ _ _ _ _ _ right.0 (c.cell_place-place.ensures.0 ∙ ap (λ (i : ℕ). cell_at key i 0) (sym right.1)) (ap retired_word (sym right.2)))
