use Rattle.schedule.proofs.Cited.{◌≡◌, ◌++◌, [], Err, length, line_at}
use Rattle.schedule.specs.Play.{point, Plays}
use Rattle.schedule.proofs.running.Running.feed.Given as goal

abbrev pub invariant-loop-line : goal.invariant-loop-line
invariant-loop-line l = record {
  good : line_at l.fn.self.held ≡ Err [] → line_at l.self.held ≡ Err [];
  plays : line_at l.fn.self.held ≡ Err [] → Plays (point l.fn.self.world l.fn.self.line (l.fn.self.held ++ l.piece) l.fn.out.items) (point l.self.world l.self.line (l.self.held ++ l.rest) l.out.items);
}

abbrev pub decreases-loop-line : goal.decreases-loop-line
decreases-loop-line l = length l.rest
