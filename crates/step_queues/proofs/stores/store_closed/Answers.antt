use Rattle.step_queues.proofs.Cited.{ap, sym, ◌∙◌, closed_at}
use Rattle.step_queues.proofs.Queueing.{shuts}
use Rattle.step_queues.proofs.stores.store_closed.Goals as goal

pub store-requires : goal.store-requires
store-requires g c = let right = c.requires.right in
    (c.requires.seat.0, c.closed_place-place.ensures.1, shuts g.P.GracePlan.QSBR g.K.ChainRule.allows _ _ _ _ _ right.0 (c.closed_place-place.ensures.0 ∙ ap (closed_at c.args.table.now.words.shared.key) (sym right.1)))
