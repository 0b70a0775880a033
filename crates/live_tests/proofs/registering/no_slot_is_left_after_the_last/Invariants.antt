use Rattle.std.specs.Prelude.{false}
use Rattle.live_tests.proofs.registering.no_slot_is_left_after_the_last.Given as goal

abbrev pub ghosts-fills : goal.ghosts-fills
ghosts-fills g a = record { table = a.root.table_id; sizes = a.root.me.0.sizes }
