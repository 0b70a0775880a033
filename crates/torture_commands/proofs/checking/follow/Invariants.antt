use Rattle.torture_commands.specs.Checking.{CheckingAlong}
use Rattle.torture_commands.proofs.checking.follow.Given as goal

abbrev pub invariant-loop : goal.invariant-loop
invariant-loop g l = CheckingAlong (g.R.Read.remaining l.initial.reader) (g.R.Read.remaining l.reader) (g.W.Write.contents l.initial.writer) (g.W.Write.contents l.writer) l.judging
