use Rattle.world_kept.proofs.Cited.{rules, ◌≡◌, ℕ, subst, replicate, arith, replicate_more, empty_queue_state}
use Rattle.world_kept.proofs.kept.new_queues.Goals as goal

pub loop-init : goal.loop-init
loop-init c = c.new-queues.ensures.items

pub loop-preserved : goal.loop-preserved
loop-preserved c =
    let more = replicate_more c.loop.counter empty_queue_state in
    search rules

pub returns-clause-ok : goal.returns-clause-ok
returns-clause-ok c =
    let past = c.loop-test.false in
    let within = c.loop.auto.counter-end in
    let e : c.loop.counter ≡ c.args.workers = omega (arith, past, within) in
    subst (λ (n : ℕ). c.loop.queues.items ≡ replicate n empty_queue_state) e c.loop.invariant
