use Rattle.std.specs.Prelude.{false}
use Rattle.live_tests.proofs.queues.a_batch_is_taken_whole.Given as goal

abbrev pub ghosts-batches : goal.ghosts-batches
ghosts-batches g a = record { table = a.root.table_id; sizes = a.root.me.0.sizes }
