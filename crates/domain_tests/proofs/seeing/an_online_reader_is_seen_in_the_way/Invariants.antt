use Rattle.domain_tests.proofs.Cited.{true, names}
use Rattle.domain_tests.proofs.seeing.an_online_reader_is_seen_in_the_way.Given as goal

abbrev pub ghosts-sees : goal.ghosts-sees
ghosts-sees g a = names a.opened
