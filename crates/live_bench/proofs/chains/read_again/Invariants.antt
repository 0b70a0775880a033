use Rattle.rcu_hash.specs.live_read.Holding.{MayHoldIn}
use Rattle.live_bench.proofs.chains.read_again.Given as goal

abbrev pub invariant-loop : goal.invariant-loop
invariant-loop g l = MayHoldIn l.section.reader.now.core l.fn.held.cell
