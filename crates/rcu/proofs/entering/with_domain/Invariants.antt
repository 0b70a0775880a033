use Rattle.rcu.specs.Naming.{names}
use Rattle.rcu.proofs.entering.with_domain.Given as goal

abbrev pub ghosts-entered : goal.ghosts-entered
ghosts-entered g a = names a.opened
