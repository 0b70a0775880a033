use Rattle.std.specs.Prelude.{false}
use Rattle.live_tests.proofs.records.an_empty_pool_is_full.Given as goal

abbrev pub ghosts-is_refused : goal.ghosts-is_refused
ghosts-is_refused g a = record { table = a.root.table_id; sizes = a.root.me.0.sizes }
