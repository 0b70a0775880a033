use Rattle.step_queues.proofs.Cited.{ap, sym, ◌∙◌, arith, Sizes, closed_at}
use Rattle.step_queues.proofs.Lines.{looks_queue}
use Rattle.step_queues.proofs.loads.load_closed.Goals as goal

pub load-requires : goal.load-requires
load-requires g c = (c.requires.0, c.closed_place-place.ensures.1, looks_queue g.P.GracePlan.QSBR g.K.ChainRule.allows _ _ _ _ _ c.requires.1)

pub returns-clause-looked : goal.returns-clause-looked
returns-clause-looked g c = rw (sym c.closed_place-place.ensures.0) c.load.ensures.2.0

pub returns-clause-closed : goal.returns-clause-closed
returns-clause-closed g c = let queues = c.args.table.now.sized.4 in let low = c.requires.2 in let sizes = ap (λ (k : Sizes). k.queues) c.requires.1 in
    (c.load.ensures.2.2 c.args.queue (omega arith)).closed (c.closed_place-place.ensures.0 ∙ ap (λ (k : Sizes). closed_at k c.args.queue) (sym c.requires.1))
