-- Searches one after the other, and what they found.
use Rattle.live_write.proofs.Cited.{HasNext, Looked, stores_then, Bool, Option, None, Some, IfNone, ◌≡◌, ℕ, ◌+◌, ◌<◌, ◌≤◌, List, [], ◌++◌, sym, refl, ap, ◌∙◌, subst, arith, lt_of_not-le, append_assoc, dite, ℕ_discrete, dec_le, Me, LiveEvent, Begins, Log, Look, Sizes, View, RecordRight, Fresh, cell_at, link_in, payload_in, IsLater, found_left, found_right, begins_trans}
use Rattle.live_write.specs.Searching.{AreTaken, IsTaken, Searched, StoresNothing, Takes, TakesRecord}

-- a record taken after a search that stored nothing
pub record_then : (key : Sizes) (i n : ℕ) (found more : List Look) → StoresNothing found → TakesRecord key i n more → TakesRecord key i n (more ++ found)
record_then key i n found more none took = record {
  word = took.word;
  before = took.before ++ found;
  taken = ap (λ (l : List Look). l ++ found) took.taken;
  free = took.free;
  only = stores_then found took.before [] [] none took.only;
}

module _ {S : Type 0} (qsbr : Bool) (allows : Log → LiveEvent → Type 0) where
  -- what the right to an object is after a search
  pub right_is : (found : List Look) (x : RecordRight) (m n : Me S View) → Searched qsbr allows found x m n → n.0.object ≡ x
  right_is found x m n s = ap (λ (v : View). v.object) s.1

  -- one search after another, which makes something of the right that the first one left
  pub searched_then : (found more : List Look) (x : RecordRight) (f : RecordRight → RecordRight) (m n p : Me S View) → Searched qsbr allows found x m n → Searched qsbr allows more (f n.0.object) n p → Searched qsbr allows (more ++ found) (f x) m p
  searched_then found more x f m n p s t = (
    t.0 ∙ s.0,
    t.1 ∙ (ap (λ (z : View). record z { seen = p.0.seen; looks = more ++ z.looks; object = f z.object }) s.1 ∙ ap (λ (l : List Look). record m.0 { seen = p.0.seen; looks = l; object = f x }) (sym (append_assoc more found m.0.looks))),
    (begins_trans m.0.seen n.0.seen p.0.seen s.2.0 t.2.0, begins_trans m.0.heard n.0.seen p.0.seen s.2.1 t.2.0, t.2.2),
  )

  -- a search that found nothing yet, after a load that is told to nobody
  pub searched_none : (m n : Me S View) → Looked qsbr allows m n → Searched qsbr allows [] m.0.object m n
  searched_none m n l = ((λ i. (l.0 i).1), (λ i. (l.0 i).0), (subst (Begins m.0.seen) (sym l.1.1) l.1.2, subst (Begins m.0.heard) (sym l.1.1) l.1.3, l.1.4))

  -- after it, what was heard of was seen
  pub is_later : (found : List Look) (x : RecordRight) (m n : Me S View) → Searched qsbr allows found x m n → IsLater qsbr allows n.0 n.0
  is_later found x m n s = (([], refl), subst (λ (l : Log). Begins l n.0.seen) (sym (ap (λ (v : View). v.heard) s.1)) s.2.1, s.2.2)

  -- a record taken after a search
  pub takes_then : (key : Sizes) (number : ℕ) (found : List Look) (x : RecordRight) (i : ℕ) (m n p : Me S View) → Searched qsbr allows found x m n → (t : Takes qsbr allows key number i n p)
      → Searched qsbr allows (t.0 ++ found) (Fresh i (record { 0 = number }) (link_in p.0.object) (payload_in p.0.object)) m p
  takes_then key number found x i m n p s t = searched_then found t.0 x (λ _. Fresh i (record { 0 = number }) (link_in p.0.object) (payload_in p.0.object)) m n p s t.1

-- one more record was found in use
pub taken_more : (key : Sizes) (found more : List Look) (from to : ℕ) → ((i : ℕ) → from ≤ i → i < to → IsTaken key found i) → IsTaken key more to → (i : ℕ) → from ≤ i → i < to + 1 → IsTaken key (more ++ found) i
taken_more key found more from to all one i low high = dite (ℕ_discrete i to)
    (λ e. subst (λ (j : ℕ). IsTaken key (more ++ found) j) (sym e) (found_left more found (cell_at key to 0) (λ word. ¬ HasNext key to word) one))
    (λ ne. found_right more found (cell_at key i 0) (λ word. ¬ HasNext key i word) (all i low (omega arith)))

-- all records were, first those from the middle on
pub taken_all : (key : Sizes) (found more : List Look) (middle : ℕ) → ((i : ℕ) → middle ≤ i → i < key.pool → IsTaken key found i) → ((i : ℕ) → 0 ≤ i → i < middle → IsTaken key more i) → AreTaken key (more ++ found)
taken_all key found more middle high low i within = dite (dec_le middle i)
    (λ up. found_right more found (cell_at key i 0) (λ word. ¬ HasNext key i word) (high i up within))
    (λ not. let under = lt_of_not-le not in found_left more found (cell_at key i 0) (λ word. ¬ HasNext key i word) (low i (omega arith) under))

-- what follows from what a clause says where there is no value
pub if_none : {A : Type 0} {P Q : Type 0} (r : Option A) → IfNone r P → (P → Q) → IfNone r Q
if_none None p f = f p
if_none (Some x) p f = tt
