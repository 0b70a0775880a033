-- A chain has no more objects than there are records.
use Rattle.step_chains.proofs.Cited.{last_in, ◌≡◌, ◌≢◌, ℕ, ◌<◌, ◌≤◌, ◌||◌, List, [], ◌∷◌, Bool, true, false, map, eqb, length, sym, refl, ap, ◌∙◌, subst, inl, inr, ne_eqb, dite, ℕ_discrete, get_elem?, length-map, AllByRecursion, IsDistinct, list_any, length-le_from_distinct_below, State, ObjectId, In, Once, LiveEvent, Log, record_of, objects_of, kept_log, Sizes, View, IsAlive, KeepsRule, own_in, knows_own, here, alive_linked, lows}
use mathlib.Core.Option as lists
use Rattle.step_chains.specs.Chains.{FitsPool}

-- objects by a number that differs
module _ (f : ObjectId → ℕ) where
  apart : (o : ObjectId) (os : List ObjectId) → ((q : ObjectId) → In os q → f o ≢ f q) → AllByRecursion (λ n. eqb (f o) n ≡ false) (map f os)
  apart o [] ne = tt
  apart o (q ∷ qs) ne = (ne_eqb (f o) (f q) (ne q (inl refl)), apart o qs (λ p h. ne p (inr h)))

  distinct : (os : List ObjectId) → Once os → ((o q : ObjectId) → In os o → In os q → f o ≡ f q → o ≡ q) → IsDistinct eqb (map f os)
  unfolding IsDistinct
  distinct [] once one = tt
  distinct (o ∷ os) once one = (apart o os (λ q h e. once.0 (subst (In os) (sym (one o q (inl refl) (inr h) e)) h)), distinct os once.1 (λ p q h k. one p q (inr h) (inr k)))

  among : (os : List ObjectId) (n : ℕ) → list_any (eqb n) (map f os) ≡ true → (o : ObjectId) × In os o × (f o ≡ n)
  among [] n e = absurd (cc)
  among (o ∷ os) n e = dite (ℕ_discrete n (f o)) (λ is. (o, inl refl, sym is))
      (λ ne. let m = among os n (subst (λ (b : Bool). (b || list_any (eqb n) (map f os)) ≡ true) (ne_eqb n (f o) ne) e) in (m.0, inr m.1, m.2))

  few : (os : List ObjectId) (bound : ℕ) → Once os → ((o q : ObjectId) → In os o → In os q → f o ≡ f q → o ≡ q) → ((o : ObjectId) → In os o → f o < bound) → length os ≤ bound
  few os bound once one low = subst (λ (n : ℕ). n ≤ bound) (length-map os f) (length-le_from_distinct_below (map f os) bound (distinct os once one) (λ n e. let m = among os n e in subst (λ (i : ℕ). i < bound) m.2 (low m.0 m.1)))

pub fits_pool : {S : Type 0} (qsbr : Bool) (allows : Log → LiveEvent → Type 0) (key : Sizes) (s : State S View) (r : KeepsRule qsbr allows key s) (id : ℕ) (v : View) (at : get_elem? s.views id ≡ lists.some v) → v.sizes ≡ key → FitsPool v
fits_pool qsbr allows key s r id v at sizes own = few (λ o. (record_of r.log o).0) (own_in v.chains).objects v.sizes.pool once one (λ o h. lows qsbr allows key s r id v at sizes o (alive o h))
  where
    alive : (o : ObjectId) → In (own_in v.chains).objects o → IsAlive (objects_of r.log) o
    alive o h = alive_linked qsbr allows r.log (own_in v.chains).chain o r.run (here qsbr allows key s r id v at own o h)

    once : Once (own_in v.chains).objects
    once = subst Once (knows_own qsbr allows key s r id v at own).3 ((kept_log qsbr allows r.log r.run).linking.once (own_in v.chains).chain)

    one : (o q : ObjectId) → In (own_in v.chains).objects o → In (own_in v.chains).objects q → (record_of r.log o).0 ≡ (record_of r.log q).0 → o ≡ q
    one o q h k e = let same : o.0 ≡ q.0 = sym (r.agree.heap.header o (alive o h)).number ∙ (ap (last_in key s.words) e ∙ (r.agree.heap.header q (alive q k)).number) in λ j. record { 0 = same j }
