use Rattle.std.specs.Prelude.{true}
use Rattle.live_tests.proofs.readers.announcements.Given as goal

abbrev pub ghosts-quiescent : goal.ghosts-quiescent
ghosts-quiescent g a = record { table = a.root.table_id; sizes = a.root.me.0.sizes }
