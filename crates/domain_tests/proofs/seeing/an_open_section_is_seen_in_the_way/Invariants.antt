use Rattle.domain_tests.proofs.Cited.{false, names}
use Rattle.domain_tests.proofs.seeing.an_open_section_is_seen_in_the_way.Given as goal

abbrev pub ghosts-sees : goal.ghosts-sees
ghosts-sees g a = names a.opened
