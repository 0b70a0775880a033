-- What the keys of buckets tell that are taken one after the other.
use Rattle.rcu_hash.proofs.Cited.Words.{IsFreeWord, free_word, fresh_word, ◌∙◌, ◌≡◌, ◌≢◌, ℕ, ◌+◌, ◌%◌, ◌<◌, ◌≤◌, ◌==◌, Bool, false, if◌then◌else◌, List, [], ◌∷◌, ◌++◌, length, Some, slice_get, refl, sym, ap, subst, inl, inr, ⊎_elim, arith, cases_lt, dite, ℕ_discrete, In, in_append, in_left, LiveEvent, Log, Begins, begins_trans, hold_at, Look, Loaded, Stored, Sizes, IsAfter, Ghosts, value_among, During, FindsFree, FindsTaken, IsInUse, IsUnused, IsAmong, are_apart, Refusal, PoolFull, cell_at, stores_in, GetsNoRecord, TakesRecord, FreesAll, FreesAllBut, IsLeftFree, OnlyFrees, nat_tests, common_steps, gets, Option, Looked, GivesUp, KeepsNone, OnlyHears, Stays, stays_both}
use Rattle.rcu_hash.proofs.Copies.{found_before, found_more}
use Rattle.rcu_hash.proofs.Holds.{looks_both}

get_last : {X : Type 0} (xs : List X) (x : X) → slice_get (xs ++ x ∷ []) (length xs) ≡ Some x
get_last xs x = grind (arith, common_steps, gets)

get_other : {X : Type 0} (xs : List X) (x : X) (k : ℕ) → k ≢ length xs → slice_get (xs ++ x ∷ []) k ≡ slice_get xs k
get_other xs x k other = grind (arith, common_steps, gets)

-- The buckets before this number are taken, and their keys copied, where `value` tells what a key has in a bucket. The
-- next one counts its keys by a number of its own.
module _ {X : Type 0} (value : Option X → ℕ → Option ℕ) (buckets number : ℕ) (vs : List X) (es : List (ℕ × ℕ)) (many : length vs ≡ number) (copied : (key : ℕ) → value_among es key ≡ value (slice_get vs (key % buckets)) key) (own : ℕ) (same : own ≡ buckets) where
  pub bucket_copied : (v : X) (fs : List (ℕ × ℕ)) → ((key : ℕ) → value_among fs key ≡ (if key % own == number then value (Some v) key else value_among es key)) → (key : ℕ) → value_among fs key ≡ value (slice_get (vs ++ v ∷ []) (key % buckets)) key
  bucket_copied v fs more key = let is = more key in let was = copied key in dite (ℕ_discrete (key % buckets) number)
      (λ here. let last = get_last vs v in grind (arith, nat_tests))
      (λ apart. let other = get_other vs v (key % buckets) in grind (arith, nat_tests))

-- what was so in some log of a part of a call
module _ {W S : Type 0} (w : Ghosts W S) (qsbr : Bool) (allows : Log → LiveEvent → Type 0) (old mid new : W) where
  pub during_since : (is_so : Log → Type 0) → w.seen mid ≡ w.seen old → Begins (w.heard old) (w.heard mid) → During w qsbr allows mid new is_so → During w qsbr allows old new is_so
  during_since is_so seen heard d = record {
    at = d.at;
    after = record { after_seen = subst (λ (l : Log). Begins l d.at) seen d.after.after_seen; after_heard = begins_trans (w.heard old) (w.heard mid) d.at heard d.after.after_heard; run = d.after.run };
    before = d.before;
    so = d.so;
  }

  pub during_earlier : (is_so : Log → Type 0) → Begins (w.heard mid) (w.heard new) → During w qsbr allows old mid is_so → During w qsbr allows old new is_so
  during_earlier is_so goes d = record { at = d.at; after = d.after; before = begins_trans d.at (w.heard mid) (w.heard new) d.before goes; so = d.so }

  pub free_earlier : (is_one : ℕ → Type 0) → Begins (w.heard mid) (w.heard new) → FindsFree w qsbr allows old mid is_one → FindsFree w qsbr allows old new is_one
  free_earlier is_one goes free c one = during_earlier (IsUnused c) goes (free c one)

  -- one more chain was unused
  pub free_more : (first n : ℕ) → Begins (w.heard mid) (w.heard new) → IsAfter qsbr allows (w.seen old) (w.heard old) (w.heard new) → FindsFree w qsbr allows old mid (IsAmong first n) → IsUnused (first + n) (w.heard new) → FindsFree w qsbr allows old new (IsAmong first (n + 1))
  free_more first n goes after had unused c among = ⊎_elim
      (λ (low : c < first + n). during_earlier (IsUnused c) goes (had c (among.0, low)))
      (λ (high : first + n ≤ c). let is : first + n ≡ c = omega (arith, high, among) in
      record { at = w.heard new; after = after; before = ([], refl); so = subst (λ (k : ℕ). IsUnused k (w.heard new)) is unused })
      (cases_lt c (first + n))

-- that a chain was taken, in a later part of a call
pub taken_since : {W S : Type 0} (w : Ghosts W S) (qsbr : Bool) (allows : Log → LiveEvent → Type 0) (sizes : Sizes) (P Q : ℕ → Type 0) → ((c : ℕ) → P c → Q c) → (old mid new : W) → w.seen mid ≡ w.seen old → Begins (w.heard old) (w.heard mid) → (found : List Look) → w.looks mid ≡ found ++ w.looks old → ((c : ℕ) → P c → ¬ In found (Loaded (hold_at sizes c) 0)) → FindsTaken w qsbr allows mid new sizes P → FindsTaken w qsbr allows old new sizes Q
taken_since w qsbr allows sizes P Q on old mid new seen heard found looks fresh t = record {
  chain = t.chain;
  one = on t.chain t.one;
  found = t.found ++ found;
  looks = looks_both (w.looks old) (w.looks mid) (w.looks new) found t.found looks t.looks;
  why = ⊎_elim
      (λ (h : In t.found (Loaded (hold_at sizes t.chain) 1) × ¬ In t.found (Loaded (hold_at sizes t.chain) 0)). inl (
        in_left t.found found (Loaded (hold_at sizes t.chain) 1) h.0,
        λ both. ⊎_elim h.1 (fresh t.chain t.one) (in_append t.found found (Loaded (hold_at sizes t.chain) 0) both),
      ))
      (λ (d : During w qsbr allows mid new (IsInUse t.chain)). inr (during_since w qsbr allows old mid new (IsInUse t.chain) seen heard d))
      t.why;
}

-- the place of a word that was found or stored
abbrev pub place_of : Look → ℕ
place_of (Loaded a n) = a
place_of (Stored a n) = a

-- what was found and stored are the hold words of chains, of which some fact is known
abbrev pub AreHoldsOf : Sizes → (ℕ → Type 0) → List Look → Type 0
AreHoldsOf sizes P found = (x : Look) → In found x → (c : ℕ) × P c × (place_of x ≡ hold_at sizes c)

-- so another chain's is not among them
pub other_hold : (sizes : Sizes) (P : ℕ → Type 0) (found : List Look) (c word : ℕ) → AreHoldsOf sizes P found → ((k : ℕ) → P k → k ≢ c) → ¬ In found (Loaded (hold_at sizes c) word)
other_hold sizes P found c word holds other h =
    let x = holds (Loaded (hold_at sizes c) word) h in let place = x.2 in other x.0 x.1 (omega (arith, place))

-- two ranges that are not apart have a chain in common
pub in_both : (a m b n : ℕ) → 0 < m → 0 < n → are_apart a m b n ≡ false → (c : ℕ) × IsAmong a m c × IsAmong b n c
in_both a m b n some more apart =
    let both : (b < a + m) × (a < b + n) = grind (arith, nat_tests) in
    ⊎_elim (λ (under : b < a). (a, (omega arith, omega arith), (omega arith, omega arith))) (λ (over : a ≤ b). (b, (omega arith, omega arith), (omega arith, omega arith))) (cases_lt b a)

stores_both : (xs ys : List Look) → stores_in (xs ++ ys) ≡ stores_in xs ++ stores_in ys
stores_both [] ys = refl
stores_both (Loaded a n ∷ xs) ys = stores_both xs ys
stores_both (Stored a n ∷ xs) ys = ap (λ (l : List (ℕ × ℕ)). (a, n) ∷ l) (stores_both xs ys)

left_free_both : (place : ℕ) (xs ys : List (ℕ × ℕ)) → IsLeftFree place xs → IsLeftFree place ys → IsLeftFree place (xs ++ ys)
left_free_both place [] ys h k = k
left_free_both place (x ∷ xs) ys h k = let rest = left_free_both place xs ys in grind arith

-- what was looked at before, and then more
module _ (key : Sizes) (found more : List Look) where
  left_free_more : (i : ℕ) → IsLeftFree (cell_at key i 0) (stores_in found) → IsLeftFree (cell_at key i 0) (stores_in more) → IsLeftFree (cell_at key i 0) (stores_in (more ++ found))
  left_free_more i h k = subst (IsLeftFree (cell_at key i 0)) (sym (stores_both more found)) (left_free_both (cell_at key i 0) (stores_in more) (stores_in found) k h)

  pub frees_both : FreesAll key found → FreesAll key more → FreesAll key (more ++ found)
  frees_both h k i = left_free_more i (h i) (k i)

  pub but_both : (kept all : List ℕ) → ((i : ℕ) → In kept i → In all i) → FreesAllBut key kept found → FreesAllBut key all more → FreesAllBut key all (more ++ found)
  but_both kept all goes h k i = ⊎_elim
      (λ (now : In all i). inl now)
      (λ (last : IsLeftFree (cell_at key i 0) (stores_in more)). ⊎_elim (λ (was : In kept i). inl (goes i was)) (λ free. inr (left_free_more i free last)) (h i))
      (k i)

module _ (key : Sizes) where
  pub but_weaker : (kept all : List ℕ) → ((i : ℕ) → In kept i → In all i) → (found : List Look) → FreesAllBut key kept found → FreesAllBut key all found
  but_weaker kept all goes found h i = ⊎_elim (λ (was : In kept i). inl (goes i was)) (λ free. inr free) (h i)

  -- of a search that took a record, that is the one store
  stores_of : (cell n : ℕ) (found : List Look) → TakesRecord key cell n found → stores_in found ≡ (cell_at key cell 0, fresh_word n) ∷ []
  stores_of cell n found took = ap stores_in took.taken ∙ ap (λ (l : List (ℕ × ℕ)). (cell_at key cell 0, fresh_word n) ∷ l) took.only

  -- a search that has a record keeps that one; one that has none, none
  pub keeps_one : (cell n : ℕ) (found : List Look) → TakesRecord key cell n found → FreesAllBut key (cell ∷ []) found
  keeps_one cell n found took i = dite (ℕ_discrete cell i)
      (λ is. inl (inl is))
      (λ apart. inr (subst (IsLeftFree (cell_at key i 0)) (sym (stores_of cell n found took)) (inr (λ (same : cell_at key cell 0 ≡ cell_at key i 0). apart (omega (arith, same)), tt))))

  none_taken : (found : List Look) → GetsNoRecord key found → FreesAll key found
  none_taken found none i = subst (IsLeftFree (cell_at key i 0)) (sym none.1) tt

  -- the words that were found and stored are hold words of a chain, or of chains
  pub holds_none : (chain : ℕ) → chain < key.chains → FreesAll key (Stored (hold_at key chain) 1 ∷ Loaded (hold_at key chain) 0 ∷ [])
  holds_none chain low i = inr (λ (same : hold_at key chain ≡ cell_at key i 0). omega (arith, low, same), tt)

  pub only_free : (found : List Look) → OnlyFrees key found → FreesAll key found
  only_free [] only i = tt
  only_free (Loaded a n ∷ found) only i = only_free found (λ place word h. only place word (inr h)) i
  only_free (Stored a n ∷ found) only i = let k = (only a n (inl refl)).1 in let low = k.1 in let place = k.2 in
      inr (λ (same : a ≡ cell_at key i 0). omega (arith, low, place, same), only_free found (λ place word h. only place word (inr h)) i)

  -- the first record of some is freed
  pub frees_one : (cell word : ℕ) (kept : List ℕ) (found : List Look) → IsFreeWord word → FreesAllBut key (cell ∷ kept) found → FreesAllBut key kept (Stored (cell_at key cell 0) word ∷ found)
  frees_one cell word kept found free h i = dite (ℕ_discrete cell i)
      (λ is. inr (inl (ap (λ (k : ℕ). cell_at key k 0) is, free)))
      (λ apart. ⊎_elim
      (λ (one : In (cell ∷ kept) i). ⊎_elim (λ is. absurd (apart is)) (λ more. inl more) one)
      (λ (before : IsLeftFree (cell_at key i 0) (stores_in found)). inr (inr (λ (same : cell_at key cell 0 ≡ cell_at key i 0). apart (omega (arith, same)), before)))
      (h i))

-- a part of a call that made no change, and what came after it
module _ {W S : Type 0} {w : Ghosts W S} {key : Sizes} where
  abbrev pub looked_none : (a : W) → Looked w key [] [] a a
  looked_none a = record { stays = (refl, refl, (λ h. h), refl); heard = ([], refl); loads = refl; found = []; looks = refl; freed = λ i. inr tt }

  abbrev pub looked_more : {kept all : List ℕ} {logs : List Log} {a b : W} → ((i : ℕ) → In kept i → In all i) → Looked w key kept logs a b → Looked w key all logs a b
  looked_more {kept} {all} goes x = record { stays = x.stays; heard = x.heard; loads = x.loads; found = x.found; looks = x.looks; freed = but_weaker key kept all goes x.found x.freed }

  abbrev pub looked_on : {kept all : List ℕ} {xs ys : List Log} {a b c : W} → ((i : ℕ) → In kept i → In all i) → Looked w key kept xs a b → Looked w key all ys b c → Looked w key all (ys ++ xs) a c
  looked_on {kept} {all} {xs} {ys} {a} {b} {c} goes x y = record {
    stays = stays_both w a b c x.stays y.stays;
    heard = begins_trans (w.heard a) (w.heard b) (w.heard c) x.heard y.heard;
    loads = looks_both (w.loads a) (w.loads b) (w.loads c) xs ys x.loads y.loads;
    found = y.found ++ x.found;
    looks = looks_both (w.looks a) (w.looks b) (w.looks c) x.found y.found x.looks y.looks;
    freed = but_both key x.found y.found kept all goes x.freed y.freed;
  }

  abbrev pub looked_then : {all : List ℕ} {xs ys : List Log} {a b c : W} → Looked w key [] xs a b → Looked w key all ys b c → Looked w key all (ys ++ xs) a c
  looked_then x y = looked_on (λ i none. absurd none) x y

  pub gives_up_on : {kept all : List ℕ} {xs ys : List Log} {e : Refusal} {a b c : W} → ((i : ℕ) → In kept i → In all i) → Looked w key kept xs a b → GivesUp w key all ys e b c → GivesUp w key all (ys ++ xs) e a c
  gives_up_on goes x y = (looked_on goes x y.0, λ full. found_more key y.0.found x.found (y.1 full))

  pub gives_up_keeping : {kept : List ℕ} {xs ys : List Log} {e : Refusal} {a b c : W} → Looked w key kept xs a b → GivesUp w key [] ys e b c → GivesUp w key kept (ys ++ xs) e a c
  gives_up_keeping x y = (looked_on (λ i h. h) x (looked_more (λ i none. absurd none) y.0), λ full. found_more key y.0.found x.found (y.1 full))

  pub gives_up_more : {kept all : List ℕ} {logs : List Log} {e : Refusal} {a b : W} → ((i : ℕ) → In kept i → In all i) → GivesUp w key kept logs e a b → GivesUp w key all logs e a b
  gives_up_more goes x = (looked_more goes x.0, x.1)

  -- nothing was found
  abbrev pub looked_hears : (a b : W) → OnlyHears w a b → Begins (w.heard a) (w.heard b) → Looked w key [] [] a b
  looked_hears a b hears heard = record { stays = hears.0.0; heard = heard; loads = hears.1; found = []; looks = hears.0.1; freed = λ i. inr tt }

  -- a record was taken, or none
  pub took_one : (cell n : ℕ) (a b : W) → Stays w a b × (w.loads b ≡ w.loads a) → Begins (w.heard a) (w.heard b) → (found : List Look) → w.looks b ≡ found ++ w.looks a → TakesRecord key cell n found → Looked w key (cell ∷ []) [] a b
  took_one cell n a b same heard found looks took = record { stays = same.0; heard = heard; loads = same.1; found = found; looks = looks; freed = keeps_one key cell n found took }

  pub took_none : (e : Refusal) (a b : W) → Stays w a b × (w.loads b ≡ w.loads a) → Begins (w.heard a) (w.heard b) → (found : List Look) → w.looks b ≡ found ++ w.looks a → GetsNoRecord key found → GivesUp w key [] [] e a b
  took_none e a b same heard found looks none = (record { stays = same.0; heard = heard; loads = same.1; found = found; looks = looks; freed = λ i. inr (none_taken key found none i) }, λ full. none.0)

  -- it is refused, but for no full pool
  pub gives_up_other : {kept : List ℕ} {logs : List Log} {e : Refusal} {a b : W} → e ≢ PoolFull → Looked w key kept logs a b → GivesUp w key kept logs e a b
  gives_up_other other x = (x, λ full. absurd (other full))

  -- and it frees the first record that it kept
  pub gives_up_less : (cell n : ℕ) (kept : List ℕ) (logs : List Log) (log : Log) (e : Refusal) (a b c : W) → GivesUp w key (cell ∷ kept) logs e a b →
      Stays w b c → Begins (w.heard b) (w.heard c) → w.loads c ≡ log ∷ w.loads b → w.looks c ≡ Stored (cell_at key cell 0) (free_word n) ∷ w.looks b → GivesUp w key kept (log ∷ logs) e a c
  gives_up_less cell n kept logs log e a b c x stays heard loads looks = (
    record {
      stays = stays_both w a b c x.0.stays stays;
      heard = begins_trans (w.heard a) (w.heard b) (w.heard c) x.0.heard heard;
      loads = looks_both (w.loads a) (w.loads b) (w.loads c) logs (log ∷ []) x.0.loads loads;
      found = Stored (cell_at key cell 0) (free_word n) ∷ x.0.found;
      looks = looks_both (w.looks a) (w.looks b) (w.looks c) x.0.found (Stored (cell_at key cell 0) (free_word n) ∷ []) x.0.looks looks;
      freed = frees_one key cell (free_word n) kept x.0.found (omega arith) x.0.freed;
    },
    λ full. found_before key (Stored (cell_at key cell 0) (free_word n) ∷ []) x.0.found (x.1 full),
  )

  -- what that tells of the records that a call keeps
  pub keeps_none_of : {logs : List Log} {e : Refusal} {a b : W} → GivesUp w key [] logs e a b → (found : List Look) × (w.looks b ≡ found ++ w.looks a) × Unit {0} × KeepsNone key e found
  keeps_none_of x = (x.0.found, x.0.looks, tt, (x.1, λ i. ⊎_elim (λ none. absurd none) (λ free. free) (x.0.freed i)))
