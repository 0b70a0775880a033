use Rattle.std.specs.Prelude.{false}
use Rattle.live_tests.proofs.registering.a_busy_reader_comes_back.Given as goal

abbrev pub ghosts-leaves : goal.ghosts-leaves
ghosts-leaves g a = record { table = a.root.table_id; sizes = a.root.me.0.sizes }
