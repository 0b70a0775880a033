use Rattle.std.specs.Prelude.{false}
use Rattle.live_tests.proofs.readers.sections_and_locks_nest.Given as goal

abbrev pub ghosts-general : goal.ghosts-general
ghosts-general g a = record { table = a.root.table_id; sizes = a.root.me.0.sizes }
