use Rattle.torture_commands.proofs.Cited.{List, Line}
use Rattle.torture_commands.specs.Walking.{IsUnderWay}
use Rattle.torture_commands.proofs.walking.walked.Given as goal

abbrev pub invariant-loop-done : goal.invariant-loop-done
invariant-loop-done l = (lines : List Line) × IsUnderWay l.walk l.walking.world l.walking.draw l.done lines
