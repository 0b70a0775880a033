use Rattle.std.proofs.Common.{◌≡◌}
use Rattle.live_bench.proofs.chains.sections.Given as goal

abbrev pub invariant-loop-number : goal.invariant-loop-number
invariant-loop-number g l = (l.reader.core.depth ≡ l.fn.reader.core.depth) × (l.reader.core.locks ≡ l.fn.reader.core.locks)
