-- The values of keys among objects.
use Rattle.rcu_list.proofs.Cited.{◌≡◌, ◌≢◌, ◌⊎◌, ℕ, ◌+◌, ◌<◌, ◌≤◌, ◌==◌, Bool, if◌then◌else◌, List, [], ◌∷◌, length, Some, None, refl, sym, ap, ◌∙◌, subst, inl, inr, ⊎_elim, arith, eq-eqb, ne_eqb, slice_get, dite, ℕ_discrete, ObjectId, In, first_of, next_of, same_object, at_number, Tells, object_tells, none_some, some_is, key_of, rank_of, Falls}
use Rattle.rcu_list.specs.Maps.{next_rank, value_of, value_in}

-- a test of two numbers, either way round
test_back : (m n : ℕ) → (m == n) ≡ (n == m)
test_back m n = dite (ℕ_discrete m n)
    (λ same. eq-eqb m n same ∙ sym (eq-eqb n m (sym same)))
    (λ other. ne_eqb m n other ∙ sym (ne_eqb n m (λ e. other (sym e))))

-- the same objects with the same notes
pub value_same : (note note' : ObjectId → ℕ × List ℕ) (os : List ObjectId) (key : ℕ) → ((o : ObjectId) → In os o → note' o ≡ note o) → value_in note' os key ≡ value_in note os key
value_same note note' [] key same = refl
value_same note note' (o ∷ os) key same = λ i. if key_of (same o (inl refl) i) == key then Some (value_of (same o (inl refl) i)) else value_same note note' os key (λ p h. same p (inr h)) i

-- so the same rank comes next, above that of the first one
pub rank_same : (note note' : ObjectId → ℕ × List ℕ) (os : List ObjectId) → ((o : ObjectId) → In os o → note' o ≡ note o) → next_rank note' os ≡ next_rank note os
rank_same note note' [] same = refl
rank_same note note' (o ∷ os) same = ap (λ (x : ℕ × List ℕ). rank_of x + 1) (same o (inl refl))

pub rank_first : (note : ObjectId → ℕ × List ℕ) (os : List ObjectId) (o : ObjectId) → slice_get os 0 ≡ Some o → next_rank note os ≡ rank_of (note o) + 1
rank_first note [] o at = absurd (none_some o at)
rank_first note (p ∷ os) o at = ap (λ (q : ObjectId). rank_of (note q) + 1) (some_is p o at)

pub rank_none : (note : ObjectId → ℕ × List ℕ) (os : List ObjectId) → length os ≤ 0 → next_rank note os ≡ 0
rank_none note [] none = refl
rank_none note (o ∷ os) none = absurd (omega (arith, none))

-- a key that no object has
pub value_absent : (note : ObjectId → ℕ × List ℕ) (os : List ObjectId) (key : ℕ) → ((o : ObjectId) → In os o → key_of (note o) ≢ key) → value_in note os key ≡ None
value_absent note [] key none = refl
value_absent note (o ∷ os) key none =
    ap (λ (b : Bool). if b then Some (value_of (note o)) else value_in note os key) (ne_eqb (key_of (note o)) key (none o (inl refl))) ∙ value_absent note os key (λ p h. none p (inr h))

-- the key of an object, where keys differ
pub value_at : (note : ObjectId → ℕ × List ℕ) (os : List ObjectId) (o : ObjectId) (key : ℕ) → Falls note os → In os o → key_of (note o) ≡ key → value_in note os key ≡ Some (value_of (note o))
value_at note [] o key falls h is = absurd h
value_at note (x ∷ xs) o key falls (inl e) is =
    ap (λ (b : Bool). if b then Some (value_of (note x)) else value_in note xs key) (eq-eqb (key_of (note x)) key (ap (λ (p : ObjectId). key_of (note p)) e ∙ is)) ∙ ap (λ (p : ObjectId). Some (value_of (note p))) e
value_at note (x ∷ xs) o key falls (inr h) is =
    ap (λ (b : Bool). if b then Some (value_of (note x)) else value_in note xs key) (ne_eqb (key_of (note x)) key (λ e. (falls.0 o h).0 (is ∙ sym e))) ∙ value_at note xs o key falls.1 h is

-- an object has the key, or none has
pub record Found (note : ObjectId → ℕ × List ℕ) (os : List ObjectId) (key : ℕ) : Type 0 where
  pub object : ObjectId
  pub has : In os object
  pub is : key_of (note object) ≡ key

pub find_key : (note : ObjectId → ℕ × List ℕ) (os : List ObjectId) (key : ℕ) → Found note os key ⊎ ((o : ObjectId) → In os o → key_of (note o) ≢ key)
find_key note [] key = inr (λ o h. absurd h)
find_key note (x ∷ xs) key = dite (ℕ_discrete (key_of (note x)) key)
    (λ same. inl (record { object = x; has = inl refl; is = same }))
    (λ other. ⊎_elim
    (λ (f : Found note xs key). inl (record { object = f.object; has = inr f.has; is = f.is }))
    (λ (none : (o : ObjectId) → In xs o → key_of (note o) ≢ key). inr (λ o h. ⊎_elim (λ (e : x ≡ o). subst (λ (p : ObjectId). key_of (note p) ≢ key) e other) (λ (k : In xs o). none o k) h))
    (find_key note xs key))

-- two lists have the same objects with the key
pub value_kept : (note note' : ObjectId → ℕ × List ℕ) (os os' : List ObjectId) (key : ℕ) → Falls note os → Falls note' os' →
    ((o : ObjectId) → In os o → key_of (note o) ≡ key → In os' o × (note' o ≡ note o)) →
    ((o : ObjectId) → In os' o → key_of (note' o) ≡ key → In os o × (note' o ≡ note o)) →
    value_in note' os' key ≡ value_in note os key
value_kept note note' os os' key falls falls' to from = ⊎_elim
    (λ (f : Found note os key). let there = to f.object f.has f.is in
    value_at note' os' f.object key falls' there.0 (ap key_of there.1 ∙ f.is) ∙ (ap (λ (x : ℕ × List ℕ). Some (value_of x)) there.1 ∙ sym (value_at note os f.object key falls f.has f.is)))
    (λ (none : (o : ObjectId) → In os o → key_of (note o) ≢ key).
    value_absent note' os' key (λ o h is. let was = from o h is in none o was.0 (ap key_of (sym was.1) ∙ is)) ∙ sym (value_absent note os key none))
    (find_key note os key)

-- an object before the others
pub value_first : (note : ObjectId → ℕ × List ℕ) (os : List ObjectId) (o : ObjectId) (key : ℕ) → value_in note (o ∷ os) key ≡ at_number (key_of (note o)) (Some (value_of (note o))) (value_in note os) key
value_first note os o key = ap (λ (b : Bool). if b then Some (value_of (note o)) else value_in note os key) (test_back (key_of (note o)) key)

-- objects with one key are one
pub one_key : (note : ObjectId → ℕ × List ℕ) (os : List ObjectId) (o p : ObjectId) → Falls note os → In os o → In os p → key_of (note o) ≡ key_of (note p) → o ≡ p
one_key note [] o p falls h k e = absurd h
one_key note (x ∷ xs) o p falls (inl a) (inl b) e = sym a ∙ b
one_key note (x ∷ xs) o p falls (inl a) (inr k) e = absurd ((falls.0 p k).0 (sym e ∙ ap (λ (z : ObjectId). key_of (note z)) (sym a)))
one_key note (x ∷ xs) o p falls (inr h) (inl b) e = absurd ((falls.0 o h).0 (e ∙ ap (λ (z : ObjectId). key_of (note z)) (sym b)))
one_key note (x ∷ xs) o p falls (inr h) (inr k) e = one_key note xs o p falls.1 h k e

pub first_at : (os : List ObjectId) (o : ObjectId) → slice_get os 0 ≡ Some o → first_of os ≡ Some o
first_at [] o at = at
first_at (x ∷ xs) o at = at

-- the first object has the greatest rank
pub first_above : (note : ObjectId → ℕ × List ℕ) (os : List ObjectId) (o p : ObjectId) → Falls note os → first_of os ≡ Some o → In os p → (o ≡ p) ⊎ (rank_of (note p) < rank_of (note o))
first_above note [] o p falls first h = absurd h
first_above note (x ∷ xs) o p falls first (inl e) = inl (sym (some_is x o first) ∙ e)
first_above note (x ∷ xs) o p falls first (inr h) = inr (subst (λ (z : ObjectId). rank_of (note p) < rank_of (note z)) (some_is x o first) (falls.0 p h).1)

-- what follows an object has a lower rank, and the greatest below
pub record IsBehind (note : ObjectId → ℕ × List ℕ) (os : List ObjectId) (o p : ObjectId) : Type 0 where
  pub has : In os p
  pub lower : rank_of (note p) < rank_of (note o)
  pub others : (q : ObjectId) → In os q → rank_of (note q) < rank_of (note o) → (p ≡ q) ⊎ (rank_of (note q) < rank_of (note p))

pub next_below : (note : ObjectId → ℕ × List ℕ) (os : List ObjectId) (o p : ObjectId) → Falls note os → In os o → next_of os o ≡ Some p → IsBehind note os o p
next_below note [] o p falls h next = absurd h
next_below note (x ∷ xs) o p falls h next = by (object_tells x o) h (λ k e. next_below note xs o p falls.1 k e)
  where
    by : Tells (same_object x o) x o → In (x ∷ xs) o → (In xs o → next_of xs o ≡ Some p → IsBehind note xs o p) → IsBehind note (x ∷ xs) o p
    by (inl y) h on = let first : first_of xs ≡ Some p = sym (ap (λ (b : Bool). if b then first_of xs else next_of xs o) y.0) ∙ next in let has : In xs p = there xs first in record {
      has = inr has;
      lower = subst (λ (z : ObjectId). rank_of (note p) < rank_of (note z)) y.1 (falls.0 p has).1;
      others = λ q k low. ⊎_elim (λ (e : x ≡ q). let same : rank_of (note o) ≡ rank_of (note q) = ap (λ (z : ObjectId). rank_of (note z)) (sym y.1 ∙ e) in absurd (omega arith)) (λ (l : In xs q). first_above note xs p q falls.1 first l) k;
    }
      where
        there : (ys : List ObjectId) → first_of ys ≡ Some p → In ys p
        there [] first = absurd (none_some p first)
        there (z ∷ zs) first = inl (some_is z p first)
    by (inr n) (inl e) on = absurd (n.1 e)
    by (inr n) (inr k) on = let rest = on k (sym (ap (λ (b : Bool). if b then first_of xs else next_of xs o) n.0) ∙ next) in record {
      has = inr rest.has;
      lower = rest.lower;
      others = λ q l low. ⊎_elim (λ (e : x ≡ q). let above = (falls.0 o k).1 in let same : rank_of (note x) ≡ rank_of (note q) = ap (λ (z : ObjectId). rank_of (note z)) e in absurd (omega arith)) (λ (m : In xs q). rest.others q m low) l;
    }

-- behind the last one none has a lower rank
pub last_below : (note : ObjectId → ℕ × List ℕ) (os : List ObjectId) (o q : ObjectId) → Falls note os → In os o → next_of os o ≡ None → In os q → ¬ (rank_of (note q) < rank_of (note o))
last_below note [] o q falls h next k low = absurd h
last_below note (x ∷ xs) o q falls h next k low = by (object_tells x o) h k (λ m e l. last_below note xs o q falls.1 m e l low)
  where
    by : Tells (same_object x o) x o → In (x ∷ xs) o → In (x ∷ xs) q → (In xs o → next_of xs o ≡ None → In xs q → ⊥) → ⊥
    by (inl y) h (inl e) on = let same : rank_of (note o) ≡ rank_of (note q) = ap (λ (z : ObjectId). rank_of (note z)) (sym y.1 ∙ e) in omega arith
    by (inl y) h (inr l) on = none xs (sym (ap (λ (b : Bool). if b then first_of xs else next_of xs o) y.0) ∙ next) l
      where
        none : (ys : List ObjectId) → first_of ys ≡ None → In ys q → ⊥
        none [] first l = l
        none (z ∷ zs) first l = none_some z (sym first)
    by (inr n) (inl e) k on = n.1 e
    by (inr n) (inr m) (inl e) on = let above = (falls.0 o m).1 in let same : rank_of (note x) ≡ rank_of (note q) = ap (λ (z : ObjectId). rank_of (note z)) e in omega arith
    by (inr n) (inr m) (inr l) on = on m (sym (ap (λ (b : Bool). if b then first_of xs else next_of xs o) n.0) ∙ next) l

-- where no object is linked, no key has a value
pub empty_map : (note : ObjectId → ℕ × List ℕ) (os : List ObjectId) (key : ℕ) → first_of os ≡ None → value_in note os key ≡ None
empty_map note [] key none = refl
empty_map note (o ∷ os) key none = absurd (none_some o (sym none))
