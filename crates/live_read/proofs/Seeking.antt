-- Steps of a search for a free slot, one after the other.
use Rattle.live_read.proofs.Cited.{Bool, ◌≡◌, ℕ, ◌+◌, ◌/◌, ◌%◌, ◌<◌, List, [], ◌∷◌, ◌++◌, true, false, MatchBool, not, sym, refl, ap, ◌∙◌, subst, inr, arith, append_assoc, dite, Option, none, some, ℕ_discrete, Me, bit_of, in_left, LiveEvent, Log, open_of, sections_of, begins_trans, Look, Loaded, View, SlotRight, Owns, group_at, IsClosed, Fits, count_in, word_in, Went, looked_view, stores_in, found_left, found_right, stores_then}
use Rattle.live_read.specs.Registering.{Finds, Misses, Sought, TakesOne, WasClaimed}

-- a closed word fits no open section
pub closed_fits : (b : Bool) (w : ℕ) (o : Option (ℕ × ℕ)) → Fits b w o → IsClosed b w → o ≡ none
closed_fits b w none f z = refl
closed_fits false w (some x) f z = absurd (f.0 z)
closed_fits true w (some x) f z = absurd (omega arith)

-- by what a bit is not
pub match_not : {A B : Type 0} (b : Bool) → (b ≡ false → A) → (b ≡ true → B) → MatchBool (not b) A B
match_not false off on = off refl
match_not true off on = on refl

-- nothing was stored before
takes_after : (r : ℕ) (found more : List Look) → stores_in found ≡ [] → TakesOne r more → TakesOne r (more ++ found)
takes_after r found more empty t = record {
  word = t.word;
  left = t.left;
  was_found = in_left more found (Loaded (group_at (r / 64)) t.word) t.was_found;
  was_free = t.was_free;
  is_set = t.is_set;
  others = t.others;
  stores = stores_then found more [] ((group_at (r / 64), t.left) ∷ []) empty t.stores;
}

module _ {S : Type 0} (qsbr : Bool) (allows : Log → LiveEvent → Type 0) where
  -- one step after another, which leaves the right as it was, or makes this of it
  pub sought_then : (found more : List Look) (x y : SlotRight) (m n p : Me S View) → Sought qsbr allows found x m n → Sought qsbr allows more y n p → Sought qsbr allows (more ++ found) y m p
  sought_then found more x y m n p s t = (
    t.0 ∙ s.0,
    t.1 ∙ (ap (λ (z : View). record z { seen = p.0.seen; looks = more ++ z.looks; slot = y }) s.1 ∙ ap (λ (l : List Look). record m.0 { seen = p.0.seen; looks = l; slot = y }) (sym (append_assoc more found m.0.looks))),
    (begins_trans m.0.seen n.0.seen p.0.seen s.2.0 t.2.0, begins_trans m.0.heard n.0.seen p.0.seen s.2.1 t.2.0, t.2.2),
  )

  -- the right is as it was
  slot_is : (so : List Look → Type 0) (m n : Me S View) → Misses qsbr allows so m n → n.0.slot ≡ m.0.slot
  slot_is so m n s = ap (λ (v : View). v.slot) s.sought.1

  pub misses_then : (so more all : List Look → Type 0) (m n p : Me S View) → ((f g : List Look) → so f → more g → all (g ++ f)) → Misses qsbr allows so m n → Misses qsbr allows more n p → Misses qsbr allows all m p
  misses_then so more all m n p both s t = record {
    found = t.found ++ s.found;
    sought = sought_then s.found t.found m.0.slot m.0.slot m n p s.sought (subst (λ (x : SlotRight). Sought qsbr allows t.found x n p) (slot_is so m n s) t.sought);
    is_so = both s.found t.found s.is_so t.is_so;
    none_stored = stores_then s.found t.found [] [] s.none_stored t.none_stored;
  }

  pub finds_then : (so : List Look → Type 0) (r : ℕ) (m n p : Me S View) → Misses qsbr allows so m n → Finds qsbr allows r n p → Finds qsbr allows r m p
  finds_then so r m n p s t = record {
    found = t.found ++ s.found;
    sought = sought_then s.found t.found m.0.slot p.0.slot m n p s.sought t.sought;
    takes = takes_after r s.found t.found s.none_stored t.takes;
    claimed = t.claimed;
  }

  -- a look at the slot's word after it
  pub finds_looks : (r a n : ℕ) (m u v : Me S View) → Finds qsbr allows r m u → Went qsbr allows (looked_view a n u.0) u v → open_of r v.0.seen ≡ none → sections_of r v.0.seen ≡ count_in u.0.slot → Finds qsbr allows r m v
  finds_looks r a n m u v s went shut count = let kept : v.0.slot ≡ u.0.slot = ap (λ (z : View). z.slot) went.1 in record {
    found = Loaded a n ∷ s.found;
    sought = sought_then s.found (Loaded a n ∷ []) u.0.slot v.0.slot m u v s.sought (subst (λ (x : SlotRight). Sought qsbr allows (Loaded a n ∷ []) x u v) (sym kept) went);
    takes = let t = s.takes in record { word = t.word; left = t.left; was_found = inr t.was_found; was_free = t.was_free; is_set = t.is_set; others = t.others; stores = t.stores };
    claimed = record {
      owns = kept ∙ (s.claimed.owns ∙ ap (λ (x : SlotRight). Owns r (word_in x) (count_in x)) (sym kept));
      closed = subst (λ (x : SlotRight). IsClosed qsbr (word_in x)) (sym kept) s.claimed.closed;
      none_open = shut;
      counted = count ∙ ap count_in (sym kept);
    };
  }

-- one more slot was found claimed
pub claimed_more : (to : ℕ) (found more : List Look) → ((r : ℕ) → r < to → WasClaimed r found) → WasClaimed to more → (r : ℕ) → r < to + 1 → WasClaimed r (more ++ found)
claimed_more to found more all one r below = dite (ℕ_discrete r to)
    (λ e. subst (λ (z : ℕ). WasClaimed z (more ++ found)) (sym e) (found_left more found (group_at (to / 64)) (λ n. bit_of n (to % 64) ≡ true) one))
    (λ ne. found_right more found (group_at (r / 64)) (λ n. bit_of n (r % 64) ≡ true) (all r (omega arith)))
