use Rattle.std.specs.Prelude.{false}
use Rattle.live_tests.proofs.records.a_pool_of_one_is_used_again.Given as goal

abbrev pub ghosts-allocates_twice : goal.ghosts-allocates_twice
ghosts-allocates_twice g a = record { table = a.root.table_id; sizes = a.root.me.0.sizes }
