use Rattle.rcu_hash.proofs.Cited.{Log, Begins, FindsNothing, ◌≡◌, ◌++◌, List}
use Rattle.rcu_hash.proofs.table.RcuHash.tidy.Given as goal

-- it has waited, and another thread has made the table grow meanwhile
abbrev pub invariant-loop : goal.invariant-loop
invariant-loop g l = record {
  jobs : l.jobs ≡ l.fn.jobs;
  same : FindsNothing g.W.Caller l.fn.caller l.caller;
  waits : (logs : List Log) × (g.W.Caller.loads l.caller ≡ logs ++ g.W.Caller.loads l.fn.caller);
  heard : Begins (g.W.Caller.heard l.fn.caller) (g.W.Caller.heard l.caller);
}
