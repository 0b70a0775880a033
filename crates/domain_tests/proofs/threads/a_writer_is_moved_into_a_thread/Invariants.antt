use Rattle.domain_tests.proofs.Cited.{true, names}
use Rattle.domain_tests.proofs.threads.a_writer_is_moved_into_a_thread.Given as goal

abbrev pub ghosts-moves_a_writer : goal.ghosts-moves_a_writer
ghosts-moves_a_writer g a = names a.opened
