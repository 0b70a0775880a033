use Rattle.step_queues.proofs.Cited.{ap, sym, ◌∙◌, arith, work_at}
use Rattle.step_queues.proofs.Working.{leaves}
use Rattle.step_queues.proofs.work.end_work.Goals as goal

pub store-requires : goal.store-requires
store-requires g c = let right = c.requires.right in
    (c.requires.seat.0, c.work_place-place.ensures.1, leaves g.P.GracePlan.QSBR g.K.ChainRule.allows _ _ _ _ _ _ (omega arith) right.0 (c.work_place-place.ensures.0 ∙ ap (work_at c.args.table.now.words.shared.key) (sym right.1)))

pub returns-clause-freed : goal.returns-clause-freed
returns-clause-freed g c = rw (sym c.work_place-place.ensures.0) c.store.ensures.2
