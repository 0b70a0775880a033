use Rattle.step_records.proofs.Cited.{free_word, ℕ, ◌∙◌, ap, sym, cell_at}
use Rattle.step_records.proofs.Records.{discards}
use Rattle.step_records.proofs.steps.store_discard.Goals as goal

pub store-requires : goal.store-requires
store-requires g c = let right = c.requires.right in let key = c.args.table.now.words.shared.key in
    (c.requires.seat.0, c.cell_place-place.ensures.1, discards g.P.GracePlan.QSBR g.K.ChainRule.allows _ _ _ _ _ _ right.0 (c.cell_place-place.ensures.0 ∙ ap (λ (i : ℕ). cell_at key i 0) (sym right.1)) (ap free_word (sym right.2)))

pub returns-clause-discarded : goal.returns-clause-discarded
returns-clause-discarded g c = rw (sym c.cell_place-place.ensures.0) c.store.ensures.2
