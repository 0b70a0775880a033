use Rattle.std.specs.Prelude.{false, true}
use Rattle.rcu_hash.specs.domain.Naming.{names}
use Rattle.list_tests.proofs.lists.lists_begin_empty.Given as goal

abbrev pub ghosts-bad_chains_in : goal.ghosts-bad_chains_in
ghosts-bad_chains_in g a = names a.opened

abbrev pub ghosts-bad_chains_in-2 : goal.ghosts-bad_chains_in-2
ghosts-bad_chains_in-2 g a = names a.opened
