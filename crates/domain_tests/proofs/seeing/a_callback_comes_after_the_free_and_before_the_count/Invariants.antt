use Rattle.domain_tests.proofs.Cited.{false, names}
use Rattle.domain_tests.proofs.seeing.a_callback_comes_after_the_free_and_before_the_count.Given as goal

abbrev pub ghosts-paused : goal.ghosts-paused
ghosts-paused g a = names a.opened
