use Rattle.step_queues.proofs.Cited.{ap, sym, ◌∙◌, arith, some, queued_at}
use Rattle.step_queues.proofs.Queueing.{queues}
use Rattle.step_queues.proofs.stores.store_queued.Goals as goal

pub compare_exchange_with-requires : goal.compare_exchange_with-requires
compare_exchange_with-requires g c = let right = c.requires.right in
    (c.requires.seat.0, c.queued_place-place.ensures.1, queues g.P.GracePlan.QSBR g.K.ChainRule.allows _ _ _ _ _ _ _ _ (some c.args.callback.now) right.0 c.requires.open c.requires.retired (c.queued_place-place.ensures.0 ∙ ap (queued_at c.args.table.now.words.shared.key) (sym right.1)) (sym right.2) (omega (arith, right.2)))
