-- Lists of numbers in which none is there twice.
use Rattle.std.proofs.Common.{◌≡◌, ◌≢◌, ◌⊎◌, ◌↔◌, inl, inr, ⊎_elim, ℕ, ◌-◌, ◌<◌, ◌≤◌, ◌==◌, true, false, zero, List, [], ◌∷◌, ◌++◌, refl, sym, subst, arith}
use Rattle.std.specs.List.{Contains}
use Rattle.std.proofs.lemmas.Bool.Decides.{eqb_tells}
use Rattle.std.proofs.lemmas.List.Elements.{Contains-append_left, Contains-append_right, Contains-append_cases}
use Rattle.slab.proofs.SlabLemmas.{Contains-cons, Contains-cons_cases}
use Rattle.registry.specs.Layout.{AreOnce}

module _ {X : Type 0} where
  pub none_in_nil : (x : X) → ¬ Contains [] x
  none_in_nil x (k, low, is) = absurd (omega (arith, low))

  pub first_is_there : (x : X) (xs : List X) → Contains (x ∷ xs) x
  first_is_there x xs = (zero, omega arith, refl)

  pub last_is_there : (xs : List X) (x : X) → Contains (xs ++ x ∷ []) x
  last_is_there xs x = Contains-append_right xs (x ∷ []) x (first_is_there x [])

  -- what is there once one more stands at the end
  pub there_or_last : (xs : List X) (y x : X) → Contains (xs ++ y ∷ []) x → Contains xs x ⊎ (y ≡ x)
  there_or_last xs y x h =
      ⊎_elim
      (λ (l : Contains xs x). inl l)
      (λ (r : Contains (y ∷ []) x). ⊎_elim (λ (e : y ≡ x). inr e) (λ (n : Contains [] x). absurd (none_in_nil x n)) (Contains-cons_cases y x [] r))
      (Contains-append_cases xs (y ∷ []) x h)

pub once_front : (ns : List ℕ) (n : ℕ) → AreOnce (ns ++ n ∷ []) → AreOnce ns
once_front [] n once = tt
once_front (m ∷ ns) n once = ((λ h. once.0 (Contains-append_left ns (n ∷ []) m h)), once_front ns n once.1)

pub last_not_before : (ns : List ℕ) (n : ℕ) → AreOnce (ns ++ n ∷ []) → ¬ Contains ns n
last_not_before [] n once h = none_in_nil n h
last_not_before (m ∷ ns) n once h =
    ⊎_elim
    (λ (e : m ≡ n). once.0 (subst (Contains (ns ++ n ∷ [])) (sym e) (last_is_there ns n)))
    (λ (r : Contains ns n). last_not_before ns n once.1 r)
    (Contains-cons_cases m n ns h)

pub once_more : (ns : List ℕ) (n : ℕ) → AreOnce ns → ¬ Contains ns n → AreOnce (ns ++ n ∷ [])
once_more [] n once fresh = (none_in_nil n, tt)
once_more (m ∷ ns) n once fresh = (
  (λ h. ⊎_elim (λ (l : Contains ns m). once.0 l) (λ (e : n ≡ m). fresh (subst (Contains (m ∷ ns)) (sym e) (first_is_there m ns))) (there_or_last ns n m h)),
  once_more ns n once.1 (λ h. fresh (Contains-cons m n ns h)),
)

-- the numbers from m on, and below them one more
pub from_below : (ns : List ℕ) (m end : ℕ) → 0 < m → m ≤ end → ((n : ℕ) → Contains ns n ↔ ((m ≤ n) × (n < end))) → (n : ℕ) → Contains (ns ++ (m - 1) ∷ []) n ↔ ((m - 1 ≤ n) × (n < end))
from_below ns m end some low all n = (there, here)
  where
    there : Contains (ns ++ (m - 1) ∷ []) n → (m - 1 ≤ n) × (n < end)
    there h =
        ⊎_elim
        (λ (l : Contains ns n). let both = (all n).0 l in let a = both.0 in (omega (arith, a), both.1))
        (λ (e : m - 1 ≡ n). (omega (arith, e), omega (arith, e)))
        (there_or_last ns (m - 1) n h)

    here : (m - 1 ≤ n) × (n < end) → Contains (ns ++ (m - 1) ∷ []) n
    here h =
        ⊎_elim
        (λ (y : ((n == m - 1) ≡ true) × (n ≡ m - 1)). subst (Contains (ns ++ (m - 1) ∷ [])) (sym y.1) (last_is_there ns (m - 1)))
        (λ (f : ((n == m - 1) ≡ false) × (n ≢ m - 1)). let a = h.0 in let b = f.1 in Contains-append_left ns ((m - 1) ∷ []) n ((all n).1 (omega (arith, a, b), h.1)))
        (eqb_tells n (m - 1))
