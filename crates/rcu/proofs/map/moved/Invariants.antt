use Rattle.rcu.proofs.Cited.{◌≡◌, Each}
use Rattle.rcu.specs.declared.reclaim.Reclaim.TheVariants.{Moved}
use Rattle.rcu.proofs.map.moved.Given as goal

abbrev pub invariant-loop : goal.invariant-loop
invariant-loop g l = Each (λ r. r ≡ Moved) l.callbacks.items
