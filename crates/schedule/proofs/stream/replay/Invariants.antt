use Rattle.schedule.specs.Ports.{Replaying}
use Rattle.schedule.proofs.stream.replay.Given as goal

abbrev pub invariant-loop : goal.invariant-loop
invariant-loop g l = Replaying (g.R.Read.remaining l.initial.reader) (g.R.Read.remaining l.reader) (g.W.Write.contents l.initial.writer) (g.W.Write.contents l.writer) l.replay
