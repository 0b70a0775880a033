use Rattle.rcu.specs.Naming.{names}
use Rattle.examples.proofs.show.Given as goal

abbrev pub ghosts-serve : goal.ghosts-serve
ghosts-serve g a = names a.opened
