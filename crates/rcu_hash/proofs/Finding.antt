-- What is known of chains that were held one after the other.
use Rattle.rcu_hash.proofs.Cited.Words.{Bool, ◌≡◌, ◌⊎◌, ℕ, ◌+◌, ◌<◌, ◌≤◌, List, [], ◌∷◌, sym, ap, subst, inr, ⊎_elim, arith, In, in_append, Log, Begins, tabled, begins_trans, FindsFree, FindsTaken, IsAmong, IsUnused, IsAfter, Looked, hold_at, Look, Loaded, Stored, Sizes, Ghosts}
use Rattle.rcu_hash.proofs.Taking.{AreHoldsOf, during_since, free_more, looked_none, looked_then, other_hold, place_of, taken_since}

-- what was found of a chain that is held
abbrev IsHolding : Sizes → ℕ → List Look → Type 0
IsHolding sizes c found = found ≡ Stored (hold_at sizes c) 1 ∷ Loaded (hold_at sizes c) 0 ∷ []

holding_at : (sizes : Sizes) (c : ℕ) (found : List Look) (x : Look) → IsHolding sizes c found → In found x → place_of x ≡ hold_at sizes c
holding_at sizes c found x is h = ⊎_elim
    (λ (one : Stored (hold_at sizes c) 1 ≡ x). ap place_of (sym one))
    (⊎_elim (λ (one : Loaded (hold_at sizes c) 0 ≡ x). ap place_of (sym one)) (λ none. absurd none))
    (subst (λ (l : List Look). In l x) is h)

module _ {W S : Type 0} (w : Ghosts W S) (qsbr : Bool) (sizes : Sizes) (first : ℕ) (old : W) where
  -- this many chains from the first one on were held, each unused in some log of the call
  abbrev pub HeldSome : ℕ → W → Type 0
  HeldSome n new = (l : Looked w sizes [] [] old new) × AreHoldsOf sizes (λ c. c < first + n) l.found × FindsFree w qsbr tabled old new (IsAmong first n)

  pub held_none : HeldSome 0 old
  held_none = (looked_none old, λ x none. absurd none, λ c among. absurd (omega (arith, among)))

  module _ (n : ℕ) (mid new : W) (h : HeldSome n mid) where
    -- and the next one
    pub held_more : IsAfter qsbr tabled (w.seen mid) (w.heard mid) (w.heard new) → (l : Looked w sizes [] [] mid new) → IsHolding sizes (first + n) l.found → IsUnused (first + n) (w.heard new) → HeldSome (n + 1) new
    held_more after l is unused =
        let goes = begins_trans (w.heard old) (w.heard mid) (w.heard new) h.0.heard after.after_heard in (
          looked_then h.0 l,
          λ x i. ⊎_elim
              (λ (now : In l.found x). (first + n, omega arith, holding_at sizes (first + n) l.found x is now))
              (λ (was : In h.0.found x). let k = h.1 x was in let low = k.1 in (k.0, omega (arith, low), k.2))
              (in_append l.found h.0.found x i),
          free_more w qsbr tabled old mid new first n after.after_heard (record { after_seen = subst (λ (l : Log). Begins l (w.heard new)) h.0.stays.0 after.after_seen; after_heard = goes; run = after.run }) h.2 unused,
        )

    -- or the next one was taken
    pub held_taken : (many : ℕ) → n < many → FindsTaken w qsbr tabled mid new sizes (λ k. k ≡ first + n) → FindsTaken w qsbr tabled old new sizes (IsAmong first many)
    held_taken many low t = taken_since w qsbr tabled sizes (λ k. k ≡ first + n) (IsAmong first many) (λ k is. (omega (arith, is), omega (arith, is, low))) old mid new h.0.stays.0 h.0.heard h.0.found h.0.looks
        (λ k is. other_hold sizes (λ j. j < first + n) h.0.found k 0 h.1 (λ j below same. absurd (omega (arith, is, below, same)))) t

-- a chain was held, and then these
module _ {W S : Type 0} (w : Ghosts W S) (qsbr : Bool) (sizes : Sizes) (d first many : ℕ) (old mid new : W) (l : Looked w sizes [] [] old mid) (after : IsAfter qsbr tabled (w.seen old) (w.heard old) (w.heard mid)) where
  abbrev IsEither : ℕ → Type 0
  IsEither c = (c ≡ d) ⊎ IsAmong first many c

  pub both_free : Begins (w.heard mid) (w.heard new) → IsUnused d (w.heard mid) → FindsFree w qsbr tabled mid new (IsAmong first many) → FindsFree w qsbr tabled old new IsEither
  both_free goes unused free c either = ⊎_elim
      (λ (is : c ≡ d). record { at = w.heard mid; after = after; before = goes; so = subst (λ (k : ℕ). IsUnused k (w.heard mid)) (sym is) unused })
      (λ (among : IsAmong first many c). during_since w qsbr tabled old mid new (IsUnused c) l.stays.0 l.heard (free c among))
      either

  pub taken_behind : IsHolding sizes d l.found → ((d < first) ⊎ (first + many ≤ d)) → FindsTaken w qsbr tabled mid new sizes (IsAmong first many) → FindsTaken w qsbr tabled old new sizes IsEither
  taken_behind is out = taken_since w qsbr tabled sizes (IsAmong first many) IsEither (λ k among. inr among) old mid new l.stays.0 l.heard l.found l.looks
      (λ k among h. let place = holding_at sizes d l.found (Loaded (hold_at sizes k) 0) is h in ⊎_elim (λ under. absurd (omega (arith, place, under, among))) (λ over. absurd (omega (arith, place, over, among))) out)
