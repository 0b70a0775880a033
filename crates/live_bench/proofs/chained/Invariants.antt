use Rattle.rcu_hash.specs.domain.Naming.{names}
use Rattle.live_bench.proofs.chained.Given as goal

abbrev pub ghosts-boxed : goal.ghosts-boxed
ghosts-boxed g a = names a.opened

abbrev pub ghosts-on_chains : goal.ghosts-on_chains
ghosts-on_chains g a = names a.opened
