use Rattle.std.specs.Prelude.{false}
use Rattle.live_tests.proofs.writers.a_chain_has_one_writer.Given as goal

abbrev pub ghosts-refuses : goal.ghosts-refuses
ghosts-refuses g a = record { table = a.root.table_id; sizes = a.root.me.0.sizes }
