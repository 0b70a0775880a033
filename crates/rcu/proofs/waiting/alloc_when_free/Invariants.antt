use Rattle.rcu.proofs.Cited.{Begins, Stays, Look, GetsNoRecord, Each}
use Rattle.std.specs.Prelude.{◌≡◌, ◌++◌, List}
use Rattle.rcu.specs.Trying.{all_found}
use Rattle.rcu.proofs.waiting.alloc_when_free.Given as goal

abbrev pub invariant-loop : goal.invariant-loop
invariant-loop g l =
    let w = g.W.Caller in let old = l.fn.caller in let now = l.caller in
    Stays w old now × Begins (w.heard old) (w.heard now) × (w.loads now ≡ w.loads old)
    × ((tries : List (List Look)) × Each (GetsNoRecord g.B.Site.sizes) tries × (w.looks now ≡ all_found tries ++ w.looks old))
