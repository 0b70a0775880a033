-- How much earlier directories left, by the rights of the writers of their chains.
use Rattle.rcu_hash.proofs.Cited.Words.{IsUnretired, IsSome, Bool, ◌≡◌, ℕ, ◌+◌, List, [], ◌∷◌, ◌++◌, Option, None, Some, length, map, option_map, slice_get, set, inl, inr, refl, sym, ap, ◌∙◌, subst, arith, zero, suc, bool_byte, is_some, ∥∥₁_map, map-append, ObjectId, In, LiveEvent, Log, Begins, IsLiveRun, closed_stays, none_some, some_is, ChainRight, Refusal, View, OnlyHears, stays_both, Ghosts, own_in, During, AreInRow, CountsLeft, IsRest, IsStopped, LeavesOnly, LinksStill, chains_in, numbers_of, objects_in, one_if, sum_of, AreFrom, length_of, lengths_of, rights_of, length-map, common_steps}
use Rattle.rcu_hash.proofs.Holds.{each_map, from_last, from_rights, lengths_many, rights_many}
use Rattle.rcu_hash.proofs.Taking.{during_since}

-- what the lengths of their chains tell of them
pub numbers_are : (vs : List View) → numbers_of (lengths_of (rights_of vs)) ≡ chains_in vs
numbers_are [] = refl
numbers_are (v ∷ vs) = ap (λ (cs : List ℕ). (own_in v.chains).chain ∷ cs) (numbers_are vs)

pub sum_is : (vs : List View) → sum_of (lengths_of (rights_of vs)) ≡ objects_in vs
sum_is [] = refl
sum_is (v ∷ vs) = ap (λ (n : ℕ). length (own_in v.chains).objects + n) (sum_is vs)

-- so what is left of writers with the same rights is the same
pub same_objects : (vs ws : List View) → rights_of vs ≡ rights_of ws → objects_in vs ≡ objects_in ws
same_objects vs ws same = sym (sum_is vs) ∙ (ap (λ (rs : List ChainRight). sum_of (lengths_of rs)) same ∙ sum_is ws)

pub rest_rights : (d : ℕ) (o : ObjectId) (vs ws : List View) (old : Option ObjectId) (log : Log) → rights_of vs ≡ rights_of ws → IsRest d o vs old log → IsRest d o ws old log
rest_rights d o vs ws old log same rest = ∥∥₁_map rest (λ r. (
  r.0,
  subst (λ (cs : List ℕ). LeavesOnly d log (In cs) (λ p. old ≡ Some p)) (sym (numbers_are vs) ∙ (ap (λ (rs : List ChainRight). numbers_of (lengths_of rs)) same ∙ numbers_are ws)) r.1,
  (r.2.0, from_rights r.2.0 vs ws (sym same) r.2.1),
  r.3,
))

pub row_is : (first : ℕ) (vs : List View) → AreFrom first vs → AreInRow first (lengths_of (rights_of vs))
row_is first [] from = tt
row_is first (v ∷ vs) from = (from.0, row_is (first + 1) vs from.1)

pub byte_is : {A : Type 0} (r : Option A) (b : Bool) → b ≡ is_some r → bool_byte b ≡ one_if r
byte_is None b is = ap bool_byte is
byte_is (Some x) b is = ap bool_byte is

pub one_is : {A B : Type 0} (f : A → B) (r : Option A) → one_if (option_map f r) ≡ one_if r
one_is f r = grind arith

-- the last of a row, and the others
from_both : (first : ℕ) (vs : List View) (v : View) → AreFrom first (vs ++ v ∷ []) → AreFrom first vs × ((own_in v.chains).chain ≡ first + length vs)
from_both first [] v from = (tt, from.0 ∙ omega arith)
from_both first (u ∷ vs) v from = let r = from_both (first + 1) vs v from.1 in ((from.0, r.0), r.1 ∙ omega arith)

module _ {X : Type 0} (f : X → View) where
  pub from_popped : (xs all : List X) (x : X) (first : ℕ) → all ≡ xs ++ x ∷ [] → AreFrom first (map f all) → AreFrom first (map f xs) × ((own_in (f x).chains).chain ≡ first + length (map f xs))
  from_popped xs all x first is from = from_both first (map f xs) (f x) (subst (AreFrom first) (ap (map f) is ∙ map-append f xs (x ∷ [])) from)

  pub from_pushed : (xs all : List X) (x : X) (first : ℕ) → all ≡ xs ++ x ∷ [] → AreFrom first (map f xs) → (own_in (f x).chains).chain ≡ first + length (map f xs) → AreFrom first (map f all)
  from_pushed xs all x first is from own = subst (AreFrom first) (sym (ap (map f) is ∙ map-append f xs (x ∷ []))) (from_last first (map f xs) (f x) from own)

  -- the rights are those of each one
  rights_are : (xs : List X) → rights_of (map f xs) ≡ map (λ x. own_in (f x).chains) xs
  rights_are [] = refl
  rights_are (x ∷ xs) = ap (λ (l : List ChainRight). own_in (f x).chains ∷ l) (rights_are xs)

  -- and stay where one is put in the place of another with the same right
  pub rights_set : (xs : List X) (k : ℕ) (x was : X) → slice_get xs k ≡ Some was → own_in (f x).chains ≡ own_in (f was).chains → rights_of (map f (set xs k x)) ≡ rights_of (map f xs)
  rights_set [] k x was at same = grind (arith, common_steps)
  rights_set (y ∷ ys) zero x was at same = grind arith
  rights_set (y ∷ ys) (suc k) x was at same = let rest = rights_set ys k x was at same in grind arith

  pub rights_ended : (xs all other : List X) (x y : X) → all ≡ xs ++ x ∷ [] → other ≡ xs ++ y ∷ [] → own_in (f x).chains ≡ own_in (f y).chains → rights_of (map f all) ≡ rights_of (map f other)
  rights_ended xs all other x y is also same = let one = rights_are all in let two = rights_are other in grind (arith, map-append)

  pub many_lengths : (xs : List X) → length (lengths_of (rights_of (map f xs))) ≡ length xs
  many_lengths xs = lengths_many (rights_of (map f xs)) ∙ (rights_many (map f xs) ∙ length-map xs f)

  pub same_many : (xs ys : List X) → rights_of (map f xs) ≡ rights_of (map f ys) → length xs ≡ length ys
  same_many xs ys same = sym (many_lengths xs) ∙ (ap (λ (rs : List ChainRight). length (lengths_of rs)) same ∙ many_lengths ys)

  pub length_at : (xs : List X) (k : ℕ) (x : X) → slice_get xs k ≡ Some x → slice_get (lengths_of (rights_of (map f xs))) k ≡ Some (length_of (own_in (f x).chains))
  length_at [] k x at = absurd (none_some x at)
  length_at (y ∷ ys) zero x at = ap (λ (z : X). Some (length_of (own_in (f z).chains))) (some_is y x at)
  length_at (y ∷ ys) (suc k) x at = length_at ys k x at

-- a value is there as often as what is made of it
pub some_mapped : {A B : Type 0} (f : A → B) (r s : Option A) → option_map f r ≡ option_map f s → IsSome r → IsSome s
some_mapped f r s same is = grind arith

pub only_both : {W S : Type 0} (w : Ghosts W S) (a b c : W) → OnlyHears w a b → OnlyHears w b c → OnlyHears w a c
only_both w a b c x y = ((stays_both w a b c x.0.0 y.0.0, y.0.1 ∙ x.0.1), y.1 ∙ x.1)

-- what a later part of a call counts the call does
module _ {W S : Type 0} (w : Ghosts W S) (qsbr : Bool) (allows : Log → LiveEvent → Type 0) (a b c : W) where
  pub counts_since : (d : ℕ) (chains : List (ℕ × ℕ)) (left : ℕ) → w.seen b ≡ w.seen a → Begins (w.heard a) (w.heard b) → CountsLeft w qsbr allows b c d chains left → CountsLeft w qsbr allows a c d chains left
  counts_since d chains left seen heard k = record {
    replaced = k.replaced;
    was = k.was;
    unretired = λ o is. during_since w qsbr allows a b c (IsUnretired o) seen heard (k.unretired o is);
    still = each_map (λ p. During w qsbr allows b c (LinksStill d p)) (λ p. During w qsbr allows a c (LinksStill d p)) (λ p. during_since w qsbr allows a b c (LinksStill d p) seen heard) chains k.still;
    row = k.row;
    rest = k.rest;
    many = k.many;
  }

-- where it was stopped for one of some queues, it was for one of more
pub stopped_for : {D W S : Type 0} (w : Ghosts W S) (new : W) (is_one is_other : ℕ → Type 0) (jobs : List D) (e : Refusal) → ((q : ℕ) → is_one q → is_other q) → IsStopped w new is_one jobs e → IsStopped w new is_other jobs e
stopped_for w new is_one is_other jobs e goes (inl few) = inl few
stopped_for w new is_one is_other jobs e goes (inr (inl (is, (q, one, closed)))) = inr (inl (is, (q, goes q one, closed)))
stopped_for w new is_one is_other jobs e goes (inr (inr memory)) = inr (inr memory)

-- and it still is where its caller hears of more
pub stopped_on : {D W S : Type 0} (w : Ghosts W S) (qsbr : Bool) (allows : Log → LiveEvent → Type 0) (old new : W) (is_one : ℕ → Type 0) (jobs : List D) (e : Refusal) → Begins (w.heard old) (w.heard new) → IsLiveRun qsbr allows (w.heard new) → IsStopped w old is_one jobs e → IsStopped w new is_one jobs e
stopped_on w qsbr allows old new is_one jobs e on run (inl few) = inl few
stopped_on w qsbr allows old new is_one jobs e on run (inr (inl (is, (q, one, closed)))) = inr (inl (is, (q, one, (closed_stays qsbr allows (w.heard old) (w.heard new) q on run closed).0)))
stopped_on w qsbr allows old new is_one jobs e on run (inr (inr memory)) = inr (inr memory)
