use Rattle.rcu_hash.specs.domain.Naming.{names}
use Rattle.live_load.proofs.mapping.stress_map.Given as goal

abbrev pub ghosts-threads : goal.ghosts-threads
ghosts-threads g a = names a.opened
