use Rattle.std.proofs.Common.{◌≡◌, ◌≤◌}
use Rattle.live_load.proofs.reading.sections.Given as goal

abbrev pub invariant-loop-number : goal.invariant-loop-number
invariant-loop-number g l = (l.reader.core.depth ≡ 0) × (l.reader.core.locks ≡ 0) × (l.mixed ≤ l.number)
