-- The four words of a record, stored one after the other.
use Rattle.live_write.proofs.Cited.{Bool, ◌≡◌, ℕ, List, [], ◌∷◌, length, get_or, set, sym, refl, ap, ◌∙◌, arith, Me, LiveEvent, Log, View, RecordRight, Fresh, cell_in, link_in, object_in, payload_in, Went, worded_view}
use Rattle.live_write.specs.Searching.{Fills}
use Rattle.live_write.proofs.Searching.{right_is, searched_then}

four_set : (p : List ℕ) (a b c d : ℕ) → length p ≡ 4 → set (set (set (set p 0 a) 1 b) 2 c) 3 d ≡ a ∷ b ∷ c ∷ d ∷ []
four_set [] a b c d e = absurd (omega arith)
four_set (x ∷ []) a b c d e = absurd (omega arith)
four_set (x ∷ y ∷ []) a b c d e = absurd (omega arith)
four_set (x ∷ y ∷ z ∷ []) a b c d e = absurd (omega arith)
four_set (x ∷ y ∷ z ∷ u ∷ []) a b c d e = refl
four_set (x ∷ y ∷ z ∷ u ∷ t ∷ ts) a b c d e = absurd (omega arith)

-- a list of four words is its words
four_words : (w : List ℕ) → length w ≡ 4 → get_or w 0 0 ∷ get_or w 1 0 ∷ get_or w 2 0 ∷ get_or w 3 0 ∷ [] ≡ w
four_words [] e = absurd (omega arith)
four_words (x ∷ []) e = absurd (omega arith)
four_words (x ∷ y ∷ []) e = absurd (omega arith)
four_words (x ∷ y ∷ z ∷ []) e = absurd (omega arith)
four_words (x ∷ y ∷ z ∷ u ∷ []) e = refl
four_words (x ∷ y ∷ z ∷ u ∷ t ∷ ts) e = absurd (omega arith)

-- the right once this word of the payload is this one
abbrev worded : ℕ → ℕ → RecordRight → RecordRight
worded j x y = Fresh (cell_in y) (object_in y) (link_in y) (set (payload_in y) j x)

module _ {S : Type 0} (qsbr : Bool) (allows : Log → LiveEvent → Type 0) where
  pub fills : (i : ℕ) (words : List ℕ) (m a b c d : Me S View) → length words ≡ 4 → cell_in m.0.object ≡ i → length (payload_in m.0.object) ≡ 4
      → Went qsbr allows (worded_view 0 (get_or words 0 0) m.0) m a → Went qsbr allows (worded_view 1 (get_or words 1 0) a.0) a b
      → Went qsbr allows (worded_view 2 (get_or words 2 0) b.0) b c → Went qsbr allows (worded_view 3 (get_or words 3 0) c.0) c d
      → Fills qsbr allows i (object_in m.0.object) words m d
  fills i words m a b c d four is long s0 s1 s2 s3 =
      let x : RecordRight = m.0.object in
      let w = λ (j : ℕ). worded j (get_or words j 0) in
      let t1 = searched_then qsbr allows [] [] (w 0 x) (w 1) m a b s0 s1 in
      let t2 = searched_then qsbr allows [] [] (w 1 (w 0 x)) (w 2) m b c t1 s2 in
      let t3 = searched_then qsbr allows [] [] (w 2 (w 1 (w 0 x))) (w 3) m c d t2 s3 in
      let right = right_is qsbr allows [] (w 3 (w 2 (w 1 (w 0 x)))) m d t3 in
      let link = sym (ap link_in right) in
      let payload = four_set (payload_in x) (get_or words 0 0) (get_or words 1 0) (get_or words 2 0) (get_or words 3 0) long ∙ four_words words four in
      (t3.0, t3.1 ∙ (λ n. record m.0 { seen = d.0.seen; object = Fresh (is n) (object_in x) (link n) (payload n) }), t3.2)
