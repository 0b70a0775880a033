use Rattle.domain_tests.proofs.Cited.{false, names}
use Rattle.domain_tests.proofs.readings.a_section_reads_what_was_given.Given as goal

abbrev pub ghosts-reads_alone : goal.ghosts-reads_alone
ghosts-reads_alone g a = names a.opened
