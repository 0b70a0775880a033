use Rattle.domain_tests.proofs.Cited.{false, names}
use Rattle.domain_tests.proofs.reclaiming.a_worker_runs_what_a_closed_queue_has.Given as goal

abbrev pub ghosts-reclaims_one : goal.ghosts-reclaims_one
ghosts-reclaims_one g a = names a.opened
