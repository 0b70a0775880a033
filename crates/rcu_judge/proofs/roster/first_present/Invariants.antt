use Rattle.std.proofs.Common.{◌≡◌, ℕ, ◌-◌, ◌≤◌, ◌<◌, length, true}
use Rattle.rcu_judge.specs.Roster.{kept_at}
use Rattle.rcu_judge.proofs.roster.first_present.Given as goal

abbrev pub invariant-loop-at : goal.invariant-loop-at
invariant-loop-at l = (l.from ≤ l.at) × (l.at ≤ length l.kept) × ((k : ℕ) → l.from ≤ k → k < l.at → (kept_at l.kept k).is_there ≡ true → ⊥)

abbrev pub decreases-loop-at : goal.decreases-loop-at
decreases-loop-at l = length l.kept - l.at
