use Rattle.step_queues.proofs.Cited.{ap, sym, ◌∙◌, arith, Sizes, work_at}
use Rattle.step_queues.proofs.Working.{employs}
use Rattle.step_queues.proofs.work.hold_work.Goals as goal

pub compare_exchange-requires : goal.compare_exchange-requires
compare_exchange-requires g c = let sized = c.args.table.now.sized in let queues = sized.4 in let low = c.requires.2 in
    (c.requires.0, c.work_place-place.ensures.1, employs g.P.GracePlan.QSBR g.K.ChainRule.allows _ _ _ _ _ c.args.queue (omega arith) c.work_place-place.ensures.0 c.requires.1)

pub returns-clause-held : goal.returns-clause-held
returns-clause-held g c zero = let queues = c.args.table.now.sized.4 in let low = c.requires.2 in let sizes = ap (λ (k : Sizes). k.queues) c.requires.1 in let place = c.work_place-place.ensures.0 in
    rw (sym place) (c.compare_exchange.ensures.2.0 zero c.args.queue (omega arith) (place ∙ ap (λ (k : Sizes). work_at k c.args.queue) (sym c.requires.1)))

pub returns-clause-missed : goal.returns-clause-missed
returns-clause-missed g c = rw (sym c.work_place-place.ensures.0) c.compare_exchange.ensures.2.1
