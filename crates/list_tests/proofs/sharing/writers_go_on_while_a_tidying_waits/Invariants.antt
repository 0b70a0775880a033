use Rattle.std.specs.Prelude.{false, true}
use Rattle.rcu_hash.specs.domain.Naming.{names}
use Rattle.list_tests.proofs.sharing.writers_go_on_while_a_tidying_waits.Given as goal

abbrev pub ghosts-shares : goal.ghosts-shares
ghosts-shares g a = names a.opened

abbrev pub ghosts-shares-2 : goal.ghosts-shares-2
ghosts-shares-2 g a = names a.opened
