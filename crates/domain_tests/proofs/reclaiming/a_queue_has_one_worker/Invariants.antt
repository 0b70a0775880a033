use Rattle.domain_tests.proofs.Cited.{false, names}
use Rattle.domain_tests.proofs.reclaiming.a_queue_has_one_worker.Given as goal

abbrev pub ghosts-two_workers : goal.ghosts-two_workers
ghosts-two_workers g a = names a.opened
