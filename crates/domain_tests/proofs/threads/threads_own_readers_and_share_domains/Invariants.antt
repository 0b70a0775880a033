use Rattle.domain_tests.proofs.Cited.{false, names}
use Rattle.domain_tests.proofs.threads.threads_own_readers_and_share_domains.Given as goal

abbrev pub ghosts-spawns : goal.ghosts-spawns
ghosts-spawns g a = names a.opened
