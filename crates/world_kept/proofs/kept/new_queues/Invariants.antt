use Rattle.world_kept.proofs.Cited.{◌≡◌, replicate, empty_queue_state}
use Rattle.world_kept.proofs.kept.new_queues.Given as goal

abbrev pub invariant-loop : goal.invariant-loop
invariant-loop l = l.queues.items ≡ replicate l.counter empty_queue_state
