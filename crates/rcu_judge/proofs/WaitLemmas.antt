-- Lemmas on the waits that the checker keeps.
use Rattle.rcu_judge.proofs.Cited.{arith, ◌≡◌, ◌⊎◌, ◌↔◌, ℕ, nat_eq, true, false, cond, List, Option, Some, None, eqb_tells, Has}
use Rattle.rcu_judge.specs.declared.waits.Waits.{Waits}
use Rattle.rcu_judge.proofs.Members.{has_number_first}
use Rattle.rcu_judge.specs.Waits.{moment_of, AreWaits, Begins, Ends}

-- a wait begins
module _ (old new : Waits) (n moment : ℕ) (fresh : ¬ Has old.begun n) (more : (k : ℕ) → Has new.begun k ↔ ((n ≡ k) ⊎ Has old.begun k))
    (puts : (k : ℕ) → moment_of new k ≡ cond (nat_eq n k) (Some moment) (moment_of old k)) where
  pub begins : (begun over : List ℕ) → AreWaits old begun over → Begins old new begun over n moment true
  begins begun over a = grind (arith, eqb_tells, has_number_first)

-- no wait begins where its number has begun before
pub begins_nothing : (old new : Waits) (n moment : ℕ) → ¬ ¬ Has old.begun n → (begun over : List ℕ) → AreWaits old begun over → Begins old new begun over n moment false
begins_nothing old new n moment there begun over a = grind arith

-- a wait ends
module _ (old new : Waits) (n : ℕ) (same : new.begun ≡ old.begun) (puts : (k : ℕ) → moment_of new k ≡ cond (nat_eq n k) None (moment_of old k)) where
  pub ends : (was : Option ℕ) → was ≡ moment_of old n → (begun over : List ℕ) → AreWaits old begun over → Ends old new begun over n was
  ends was is begun over a = record {
    pending = grind arith;
    since = grind arith;
    ended_now = λ h. record { known = grind arith; pending = grind (arith, eqb_tells, has_number_first); began = grind (arith, has_number_first) };
    pends = grind (arith, eqb_tells);
  }
