use Rattle.step_queues.proofs.Cited.{ap, sym, ◌∙◌, arith, Sizes, finished_at}
use Rattle.step_queues.proofs.Lines.{looks_queue}
use Rattle.step_queues.proofs.loads.load_finished.Goals as goal

pub load-requires : goal.load-requires
load-requires g c = (c.requires.0, c.finished_place-place.ensures.1, looks_queue g.P.GracePlan.QSBR g.K.ChainRule.allows _ _ _ _ _ c.requires.1)

pub returns-clause-looked : goal.returns-clause-looked
returns-clause-looked g c = rw (sym c.finished_place-place.ensures.0) c.load.ensures.2.0

pub returns-clause-count : goal.returns-clause-count
returns-clause-count g c =
    let queues = c.args.table.now.sized.4 in
    let low = c.requires.2 in
    let sizes = ap (λ (k : Sizes). k.queues) c.requires.1 in
    let told = (c.load.ensures.2.2 c.args.queue (omega arith)).finished (c.finished_place-place.ensures.0 ∙ ap (λ (k : Sizes). finished_at k c.args.queue) (sym c.requires.1)) in
    (told.0, told.1, λ q high. c.load.ensures.2.1 q (omega arith))

pub returns-clause-own : goal.returns-clause-own
returns-clause-own g c n works = c.load.ensures.2.3 c.args.queue n (c.finished_place-place.ensures.0 ∙ ap (λ (k : Sizes). finished_at k c.args.queue) (sym c.requires.1)) works
