use Rattle.step_queues.proofs.Cited.{ap, sym, ◌∙◌, finished_at}
use Rattle.step_queues.proofs.Working.{finishes}
use Rattle.step_queues.proofs.stores.store_finished.Goals as goal

pub store-requires : goal.store-requires
store-requires g c = let right = c.requires.right in
    (c.requires.seat.0, c.finished_place-place.ensures.1, finishes g.P.GracePlan.QSBR g.K.ChainRule.allows _ _ _ _ _ _ right.0 c.requires.has_run (c.finished_place-place.ensures.0 ∙ ap (finished_at c.args.table.now.words.shared.key) (sym right.1)) (sym right.2))
