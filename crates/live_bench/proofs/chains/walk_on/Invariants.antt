use Rattle.std.proofs.Common.{◌≤◌, IfSome}
use Rattle.rcu_hash.specs.live_read.Holding.{MayHoldIn}
use Rattle.live_bench.proofs.chains.walk_on.Given as goal

abbrev pub invariant-loop : goal.invariant-loop
invariant-loop g l = IfSome l.at (λ h. MayHoldIn l.section.reader.now.core h.cell) × (l.walks ≤ l.counter)
