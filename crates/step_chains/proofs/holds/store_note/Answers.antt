use Rattle.step_chains.proofs.Cited.{ap, sym, ◌∙◌, note_at}
use Rattle.step_chains.proofs.Holding.{notes}
use Rattle.step_chains.proofs.holds.store_note.Goals as goal

pub store-requires : goal.store-requires
store-requires g c = let right = c.requires.right in
    (c.requires.seat.0, c.note_place-place.ensures.1, notes g.P.GracePlan.QSBR g.K.ChainRule.allows _ _ _ _ _ _ right.0 (c.note_place-place.ensures.0 ∙ ap (note_at c.args.table.now.words.shared.key) (sym right.1)) c.requires.rule)
