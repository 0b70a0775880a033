use Rattle.std.specs.Prelude.{false}
use Rattle.live_tests.proofs.records.two_threads_allocate_all_records.Given as goal

abbrev pub ghosts-two_allocate : goal.ghosts-two_allocate
ghosts-two_allocate g a = record { table = a.root.table_id; sizes = a.root.me.0.sizes }
