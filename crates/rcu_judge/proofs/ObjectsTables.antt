-- The tables of the checker as functions, and writes into them.
use Rattle.rcu_judge.proofs.Cited.{Bool, option_eq, option_map, arith, ◌≡◌, ◌≢◌, ℕ, ◌==◌, cond, nat_eq, Option, Some, None, sym, ap, ◌∙◌, subst, Result, OnErr, IsOk, HashMap, IsEmpty, IsUnchanged, get, lookup, eqb_tells, ObjectId, same_object, at_number, at_object, Tells, object_tells, at_number_same, at_number_other, at_object_same, at_object_other, decide, some_is, none_some}
use Rattle.rcu_judge.specs.declared.object.ObjectState.{ObjectState}
use Rattle.rcu_judge.specs.Objects.{states_of, heads_of, write_at, written, entered}

-- what holds at an error
pub on_err : {T E P : Type 0} (r : Result T E) → P → OnErr r P
on_err r p = grind arith

pub never_err : {T E : Type 0} (r : Result T E) (P : Type 0) → IsOk r → OnErr r P
never_err r P is = grind arith

-- an empty table
pub states_empty : {S : Type 0} (m : HashMap ObjectId ObjectState S) → IsEmpty m → (o : ObjectId) → states_of m o ≡ None
unfolding states_of
states_empty m e o = ap (lookup (same_object o)) e

pub heads_empty : {S : Type 0} (m : HashMap ℕ ObjectId S) → IsEmpty m → (c : ℕ) → heads_of m c ≡ None
unfolding heads_of
heads_empty m e c = ap (lookup (nat_eq c)) e

-- one key of a table was set
pub states_put : {S : Type 0} (m n : HashMap ObjectId ObjectState S) (o : ObjectId) (x : Option ObjectState) →
    ((q : ObjectId) → get same_object n q ≡ cond (same_object o q) x (get same_object m q)) → states_of n ≡ at_object o x (states_of m)
unfolding states_of
states_put m n o x e i q = at_key q (object_tells o q) i
  where
    at_key : (q : ObjectId) → Tells (same_object o q) o q → get same_object n q ≡ at_object o x (λ p. get same_object m p) q
    at_key q h = grind (arith, at_object_same, at_object_other)

pub heads_put : {S : Type 0} (m n : HashMap ℕ ObjectId S) (c : ℕ) (x : Option ObjectId) →
    ((q : ℕ) → get nat_eq n q ≡ cond (nat_eq c q) x (get nat_eq m q)) → heads_of n ≡ at_number c x (heads_of m)
unfolding heads_of
heads_put m n c x e i q = at_key q (eqb_tells c q) i
  where
    at_key : (q : ℕ) → Tells (c == q) c q → get nat_eq n q ≡ at_number c x (λ p. get nat_eq m p) q
    at_key q h = grind (arith, at_number_same, at_number_other)

-- a table with the same entries, or the same values
pub states_same : {S : Type 0} (m n : HashMap ObjectId ObjectState S) → ((q : ObjectId) → get same_object n q ≡ get same_object m q) → states_of n ≡ states_of m
unfolding states_of
states_same m n e i q = e q i

pub heads_unchanged : {S : Type 0} (m n : HashMap ℕ ObjectId S) → IsUnchanged m n → heads_of n ≡ heads_of m
unfolding heads_of
heads_unchanged m n e i q = ap (lookup (nat_eq q)) e i

-- one object was written, where it is known
pub states_wrote : {S : Type 0} (m n : HashMap ObjectId ObjectState S) (o : ObjectId) (t : ObjectState) (f : ObjectState → ObjectState) → Some t ≡ get same_object m o →
    ((q : ObjectId) → get same_object n q ≡ cond (same_object o q) (Some (f t)) (get same_object m q)) → states_of n ≡ written (states_of m) (Some o) f
unfolding states_of
states_wrote m n o t f is puts = states_put m n o (Some (f t)) puts ∙ ap (write_at (states_of m) o f) is

pub states_missed : {S : Type 0} (m n : HashMap ObjectId ObjectState S) (o : ObjectId) (f : ObjectState → ObjectState) → None ≡ get same_object m o → IsUnchanged m n → states_of n ≡ written (states_of m) (Some o) f
unfolding states_of
states_missed m n o f is e = states_same m n (λ q. ap (lookup (same_object q)) e) ∙ ap (write_at (states_of m) o f) is

-- a write of a known object
pub written_at : (state : ObjectId → Option ObjectState) (o : ObjectId) (t : ObjectState) (f : ObjectState → ObjectState) → state o ≡ Some t → written state (Some o) f ≡ at_object o (Some (f t)) state
written_at state o t f is = ap (write_at state o f) is

-- the object that enters was put
pub states_entered : {S : Type 0} (m n : HashMap ObjectId ObjectState S) (o : ObjectId) (x : ObjectState) (q : Option ObjectId) → q ≡ Some o →
    ((p : ObjectId) → get same_object n p ≡ cond (same_object o p) (Some x) (get same_object m p)) → states_of n ≡ entered (states_of m) q x
states_entered m n o x q e puts = subst (λ (r : Option ObjectId). states_of n ≡ entered (states_of m) r x) (sym e) (states_put m n o (Some x) puts)

-- a write of one object, where it is known
abbrev pub stored_at : Option ObjectId → ObjectId → Bool
stored_at q o = option_eq same_object q (Some o)

pub at_tells : (q : Option ObjectId) (o : ObjectId) → Tells (stored_at q o) q (Some o)
at_tells q o = grind (arith, object_tells)

pub written_is : (state : ObjectId → Option ObjectState) (q : Option ObjectId) (f : ObjectState → ObjectState) (o : ObjectId) → written state q f o ≡ option_map (λ t. cond (stored_at q o) (f t) t) (state o)
written_is state None f o = grind arith
written_is state (Some p) f o = grind (arith, decide o p, at_tells (Some p) o, at_object_same, at_object_other)

pub entered_same : (state : ObjectId → Option ObjectState) (q : Option ObjectId) (x : ObjectState) (o : ObjectId) → q ≡ Some o → entered state q x o ≡ Some x
entered_same state q x o e = grind (arith, none_some, some_is, at_object_same)

pub entered_other : (state : ObjectId → Option ObjectState) (q : Option ObjectId) (x : ObjectState) (o : ObjectId) → q ≢ Some o → entered state q x o ≡ state o
entered_other state q x o apart = grind (arith, at_object_other)
