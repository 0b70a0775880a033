use Rattle.rcu.specs.Trying.{HearsOn}
use Rattle.rcu.proofs.map.Map.set.Given as goal

abbrev pub invariant-loop : goal.invariant-loop
invariant-loop g l = HearsOn g.W.Caller l.fn.caller l.caller
