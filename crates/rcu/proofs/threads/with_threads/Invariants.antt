use Rattle.rcu.specs.Naming.{names}
use Rattle.rcu.proofs.threads.with_threads.Given as goal

abbrev pub ghosts-all : goal.ghosts-all
ghosts-all g a = names a.opened
