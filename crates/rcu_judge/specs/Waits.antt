-- Waits that begin and end, as the checker keeps them, against those of the machine.
use Rattle.std.specs.Prelude.{◌≡◌, ◌≢◌, ◌⊎◌, ◌↔◌, ℕ, nat_eq, Bool, List, ◌∷◌, Option, Some, IsSome, IsTrue}
use Rattle.std.specs.HashMap.{get}
use Rattle.number_runs.specs.Runs.{Has}
use Rattle.rcu_judge.specs.declared.waits.Waits.{Waits}
use Rattle.rcu_model.specs.Sets.{HasNumber}

-- the moment of a wait that is not over
abbrev pub moment_of : Waits → ℕ → Option ℕ
moment_of w n = get nat_eq w.pending n

-- the wait has begun, awaits who came before the moment, and is not over
abbrev pub IsPending : Waits → ℕ → ℕ → Type 0
IsPending w n moment = moment_of w n ≡ Some moment

-- these waits have begun, and these of them are over
pub record AreWaits (w : Waits) (begun over : List ℕ) : Type 0 where
  pub known : (n : ℕ) → HasNumber begun n ↔ Has w.begun n
  pub pending : (n : ℕ) → IsSome (moment_of w n) ↔ (HasNumber begun n × ¬ HasNumber over n)
  pub began : (n : ℕ) → HasNumber over n → HasNumber begun n

-- a wait has begun at the moment, if its number was fresh
pub record Begins (old new : Waits) (begun over : List ℕ) (n moment : ℕ) (started : Bool) : Type 0 where
  pub fresh : IsTrue started ↔ ¬ HasNumber begun n
  pub begun_now : IsTrue started → AreWaits new (n ∷ begun) over
  pub pends : IsTrue started → (k m : ℕ) → IsPending new k m → ((k ≡ n) × (m ≡ moment)) ⊎ ((k ≢ n) × IsPending old k m)

-- a wait is over, if it was pending, since its moment
pub record Ends (old new : Waits) (begun over : List ℕ) (n : ℕ) (was : Option ℕ) : Type 0 where
  pub pending : IsSome was ↔ (HasNumber begun n × ¬ HasNumber over n)
  pub since : (m : ℕ) → was ≡ Some m → IsPending old n m
  pub ended_now : IsSome was → AreWaits new begun (n ∷ over)
  pub pends : (k m : ℕ) → IsPending new k m → IsPending old k m

-- the same waits have begun, and the same are pending
pub record StayWaits (old new : Waits) : Type 0 where
  pub begun : new.begun ≡ old.begun
  pub pending : (n : ℕ) → moment_of new n ≡ moment_of old n
