use Rattle.rcu_hash.specs.domain.Naming.{names}
use Rattle.live_bench.proofs.repeat.Given as goal

abbrev pub ghosts-on_table : goal.ghosts-on_table
ghosts-on_table g a = names a.opened
