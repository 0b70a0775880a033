use Rattle.step_queues.proofs.Cited.{ap, sym, ◌∙◌, arith, Sizes, queued_at}
use Rattle.step_queues.proofs.Lines.{looks_queue}
use Rattle.step_queues.proofs.loads.load_queued.Goals as goal

pub load-requires : goal.load-requires
load-requires g c = (c.requires.0, c.queued_place-place.ensures.1, looks_queue g.P.GracePlan.QSBR g.K.ChainRule.allows _ _ _ _ _ c.requires.1)

pub returns-clause-looked : goal.returns-clause-looked
returns-clause-looked g c = rw (sym c.queued_place-place.ensures.0) c.load.ensures.2.0

pub returns-clause-count : goal.returns-clause-count
returns-clause-count g c = let queues = c.args.table.now.sized.4 in let low = c.requires.2 in let sizes = ap (λ (k : Sizes). k.queues) c.requires.1 in
    ((c.load.ensures.2.2 c.args.queue (omega arith)).queued (c.queued_place-place.ensures.0 ∙ ap (λ (k : Sizes). queued_at k c.args.queue) (sym c.requires.1)), λ q high. c.load.ensures.2.1 q (let sizes = ap (λ (k : Sizes). k.queues) c.requires.1 in omega arith))
