use Rattle.std.specs.Prelude.{false}
use Rattle.live_tests.proofs.keyed.a_keyed_chain_is_written.Given as goal

abbrev pub ghosts-writes : goal.ghosts-writes
ghosts-writes g a = record { table = a.root.table_id; sizes = a.root.me.0.sizes }
