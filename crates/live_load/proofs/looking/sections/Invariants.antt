use Rattle.std.proofs.Common.{◌≤◌}
use Rattle.live_load.proofs.looking.sections.Given as goal

abbrev pub invariant-loop-number : goal.invariant-loop-number
invariant-loop-number g l = l.wrong ≤ l.number
