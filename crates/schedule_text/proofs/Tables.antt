-- A table of words, of which none begins another, is read exactly.
use Rattle.schedule_text.proofs.Cited.{and_parts, ◌≡◌, ℕ, ◌≤◌, Bool, true, false, cond, eqb, ltb, List, [], ◌∷◌, ◌++◌, length, map, get_or, zero, suc, ◌<◌, Result, Ok, Err, refl, sym, ap, subst, ◌∙◌, append_assoc, arith, inl, inr, ◌⊎◌, eqb-true, eq-eqb, ltb-true, ltb-false, length-append, Bor}
use Rattle.schedule_text.specs.Reading.{Reading, word_from, further, or_else, word_on, word_at, differ, differs_from_all, is_prefix_free, value_row}
use Rattle.schedule_text.proofs.Exact.{Opens, Fault, Found, Reads, ok_is, err_is, not_both}

-- ---- one word

abbrev word_ok : List ℕ → Result (List ℕ) (List ℕ)
word_ok t = Ok t

abbrev word_err : List ℕ → Result (List ℕ) (List ℕ)
word_err t = Err t

-- which way a test went
pub chosen : {A : Type 0} (b : Bool) (x y z : A) → cond b x y ≡ z → ((b ≡ true) × (x ≡ z)) ⊎ ((b ≡ false) × (y ≡ z))
chosen true x y z e = inl (refl, e)
chosen false x y z e = inr (refl, e)

word_whole : (w r : List ℕ) → word_from w (w ++ r) ≡ Ok r
unfolding word_from
word_whole [] r = refl
word_whole (b ∷ w) r = rw (eq-eqb b b refl) (word_whole w r)

word_found : (w t r : List ℕ) → word_from w t ≡ Ok r → t ≡ w ++ r
unfolding word_from
word_found [] t r e = let p : t ≡ r = cc in p
word_found (b ∷ w) [] r e = absurd cc
word_found (b ∷ w) (c ∷ t) r e =
    elim (chosen (eqb b c) (word_from w t) (word_err (c ∷ t)) (word_ok r) e) [
      | inl h ↦ rw (eqb-true b c h.0) (ap (λ (x : List ℕ). c ∷ x) (word_found w t r h.1))
      | inr h ↦ absurd (let p = h.1 in cc)
    ]

-- a word that fails begins as the text does up to there
record Fails (w t x : List ℕ) : Type 0 where
  front : List ℕ
  text : t ≡ front ++ x
  more : List ℕ
  word : w ≡ front ++ more

word_fails : (w t x : List ℕ) → word_from w t ≡ Err x → Fails w t x
unfolding word_from
word_fails [] t x e = absurd cc
word_fails (b ∷ w) [] x e = let p : [] ≡ x = cc in record { front = []; text = p; more = b ∷ w; word = refl }
word_fails (b ∷ w) (c ∷ t) x e =
    elim (chosen (eqb b c) (word_from w t) (word_err (c ∷ t)) (word_err x) e) [
      | inl h ↦ let f = word_fails w t x h.1 in record { front = c ∷ f.front; text = ap (λ (s : List ℕ). c ∷ s) f.text; more = f.more; word = rw (eqb-true b c h.0) (ap (λ (s : List ℕ). c ∷ s) f.word) }
      | inr h ↦ let p : c ∷ t ≡ x = (let q = h.1 in cc) in record { front = []; text = p; more = b ∷ w; word = refl }
    ]

word_bound : (w t x : List ℕ) → word_from w t ≡ Err x → length x ≤ length t
word_bound w t x e = let f = word_fails w t x e in omega (arith, ap length f.text, length-append f.front x)

-- a word that goes on beyond the good front fails beyond it
word_beyond : (g r m x : List ℕ) → word_from (g ++ r) (g ++ m) ≡ Err x → length x ≤ length m
unfolding word_from
word_beyond [] r m x e = word_bound r m x e
word_beyond (b ∷ g) r m x e = word_beyond g r m x (rw (eq-eqb b b refl) at e)

word_differs : (v w r : List ℕ) → differ v w ≡ true → (x : List ℕ) × (word_from v (w ++ r) ≡ Err x)
unfolding word_from
word_differs [] w r d = absurd cc
word_differs (b ∷ v) [] r d = absurd cc
word_differs (b ∷ v) (c ∷ w) r d =
    elim (chosen (eqb b c) (differ v w) true true d) [
      | inl h ↦ let f = word_differs v w r h.1 in (f.0, rw (h.0) f.1)
      | inr h ↦ (c ∷ (w ++ r), rw (h.0) refl)
    ]

-- ---- a table

abbrev pub InTable : {K : Type 0} → List (List ℕ × K) → K → List ℕ → Type 0
InTable [] k w = ⊥
InTable (e ∷ es) k w = ((e.0 ≡ w) × (e.1 ≡ k)) ⊎ InTable es k w

differs_there : {K : Type 0} (v : List ℕ) (es : List (List ℕ × K)) (k : K) (w : List ℕ) → differs_from_all v es ≡ true → InTable es k w → differ v w ≡ true
differs_there v [] k w d i = absurd i
differs_there v (e ∷ es) k w d (inl h) = subst (λ (x : List ℕ). differ v x ≡ true) h.0 (and_parts (differ v e.0) (differs_from_all v es) d).0
differs_there v (e ∷ es) k w d (inr h) = differs_there v es k w (and_parts (differ v e.0) (differs_from_all v es) d).1 h

word_again : {K : Type 0} (bad : List ℕ) (table : List (List ℕ × K)) (k : K) (w r : List ℕ) → is_prefix_free table ≡ true → InTable table k w → word_on bad table (w ++ r) ≡ Ok (k, r)
unfolding word_on
word_again bad [] k w r free i = absurd i
word_again bad (e ∷ es) k w r free (inl h) = rw (← h.0, ← h.1, word_whole e.0 r) refl
word_again bad (e ∷ es) k w r free (inr h) =
    let b = and_parts (differs_from_all e.0 es) (is_prefix_free es) free in
    let f = word_differs e.0 w r (differs_there e.0 es k w b.0 h) in
    rw (f.1) (word_again (further bad f.0) es k w r b.1 h)

row_there : {K : Type 0} (table : List (Bor (List ℕ) × K)) (i : ℕ) (d : Bor (List ℕ) × K) → i < length table → InTable (map value_row table) (get_or table i d).1 (get_or table i d).0.now
row_there [] i d lt = absurd (omega arith)
row_there (e ∷ es) zero d lt = inl (refl, refl)
row_there (e ∷ es) (suc i) d lt = inr (row_there es i d (omega arith))

-- a word that stands at the front is the one that is read, wherever the table has it
pub word_in_table : {K : Type 0} (table : List (Bor (List ℕ) × K)) (i : ℕ) (row : Bor (List ℕ) × K) (text rest : List ℕ) → i < length table → row ≡ get_or table i row → is_prefix_free (map value_row table) ≡ true
    → word_from row.0.now text ≡ Ok rest → word_at (map value_row table) text ≡ Ok (row.1, rest)
word_in_table {K} table i row text rest lt e free found =
    let rows = map value_row table in
    let there = subst (λ (r : Bor (List ℕ) × K). InTable rows r.1 r.0.now) (sym e) (row_there table i row lt) in
    subst (λ (t : List ℕ). word_on t rows t ≡ Ok (row.1, rest)) (sym (word_found row.0.now text rest found))
    (word_again (row.0.now ++ rest) rows row.1 row.0.now rest free there)

else_cases : {K : Type 0} (r : Result (List ℕ) (List ℕ)) (k : K) (f : List ℕ → Reading K) → ((rest : List ℕ) × (r ≡ Ok rest) × (or_else r k f ≡ Ok (k, rest))) ⊎ ((rest : List ℕ) × (r ≡ Err rest) × (or_else r k f ≡ f rest))
else_cases (Ok rest) k f = inl (rest, refl, refl)
else_cases (Err rest) k f = inr (rest, refl, refl)

word_on_found : {K : Type 0} (bad : List ℕ) (table : List (List ℕ × K)) (text : List ℕ) (x : K) (rest : List ℕ) → word_on bad table text ≡ Ok (x, rest) → Found (InTable table) text x rest
unfolding word_on
word_on_found bad [] text x rest e = absurd cc
word_on_found {K} bad (row ∷ rows) text x rest e =
    elim (else_cases (word_from row.0 text) row.1 (λ after. word_on (further bad after) rows text)) [
      | inl h ↦
          let p = ok_is (row.1, h.0) (x, rest) (sym h.2 ∙ e) in
          record { front = row.0; spelled = inl (refl, ap (λ (q : K × List ℕ). q.0) p); parts = word_found row.0 text h.0 h.1 ∙ ap (λ (q : K × List ℕ). row.0 ++ q.1) p }
      | inr h ↦ let f = word_on_found (further bad h.0) rows text x rest (sym h.2 ∙ e) in record { front = f.front; spelled = inr f.spelled; parts = f.parts }
    ]

-- where no word stands at the front
record NoWord {K : Type 0} (bad : List ℕ) (table : List (List ℕ × K)) (text final : List ℕ) : Type 0 where
  least : length final ≤ length bad
  from : (final ≡ bad) ⊎ ((k : K) × (w : List ℕ) × InTable table k w × (word_from w text ≡ Err final))
  each : (k : K) (w : List ℕ) → InTable table k w → (x : List ℕ) × (word_from w text ≡ Err x) × (length final ≤ length x)

further_is : (bad rest : List ℕ) → ((further bad rest ≡ bad) × (length bad ≤ length rest)) ⊎ ((further bad rest ≡ rest) × (length rest ≤ length bad))
further_is bad rest =
    elim (chosen (ltb (length rest) (length bad)) rest bad (further bad rest) refl) [
      | inl h ↦ inr (sym h.1, omega (arith, ltb-true _ _ h.0))
      | inr h ↦ inl (sym h.1, ltb-false _ _ h.0)
    ]

word_on_fails : {K : Type 0} (bad : List ℕ) (table : List (List ℕ × K)) (text final : List ℕ) → word_on bad table text ≡ Err final → NoWord bad table text final
unfolding word_on
word_on_fails {K} bad [] text final e = let p = err_is {A = K} bad final e in record { least = rw p (omega arith); from = inl (sym p); each = λ k w i. absurd i }
word_on_fails {K} bad (row ∷ rows) text final e =
    elim (else_cases (word_from row.0 text) row.1 (λ after. word_on (further bad after) rows text)) [
      | inl h ↦ absurd (not_both (or_else (word_from row.0 text) row.1 (λ after. word_on (further bad after) rows text)) (row.1, h.0) final h.2 e)
      | inr h ↦
          let f = word_on_fails (further bad h.0) rows text final (sym h.2 ∙ e) in
          elim (further_is bad h.0) [
            | inl k ↦ record {
              least = omega (arith, ap length k.0, f.least);
              from = elim f.from [ inl same ↦ inl (same ∙ k.0) | inr t ↦ inr (t.0, t.1, inr t.2, t.3) ];
              each = λ v w i. elim i [ inl s ↦ (h.0, rw (← s.0) h.1, omega (arith, ap length k.0, f.least, k.1)) | inr s ↦ f.each v w s ];
            }
            | inr k ↦ record {
              least = omega (arith, ap length k.0, f.least, k.1);
              from = elim f.from [ inl same ↦ inr (row.1, row.0, inl (refl, refl), h.1 ∙ ap word_err (sym (same ∙ k.0))) | inr t ↦ inr (t.0, t.1, inr t.2, t.3) ];
              each = λ v w i. elim i [ inl s ↦ (h.0, rw (← s.0) h.1, omega (arith, ap length k.0, f.least)) | inr s ↦ f.each v w s ];
            }
          ]
    ]

table_fault : {K : Type 0} (table : List (List ℕ × K)) (text bad : List ℕ) → (some : (k : K) × (w : List ℕ) × InTable table k w) → word_on text table text ≡ Err bad → Fault (InTable table) text bad
table_fault table text bad some e =
    let n = word_on_fails text table text bad e in
    let beyond : (good : List ℕ) → text ≡ good ++ bad → (b : ℕ) (more : List ℕ) → bad ≡ b ∷ more → Opens (InTable table) (good ++ b ∷ []) → ⊥ =
    (λ good parts b more at o.
    let x = n.each o.0 ((good ++ b ∷ []) ++ o.1) o.2 in
    let whole : text ≡ (good ++ b ∷ []) ++ more = parts ∙ ap (λ (t : List ℕ). good ++ t) at ∙ sym (append_assoc good (b ∷ []) more) in
    let h = word_beyond (good ++ b ∷ []) o.1 more x.0 (subst (λ (t : List ℕ). word_from ((good ++ b ∷ []) ++ o.1) t ≡ Err x.0) whole x.1) in
    omega (arith, h, x.2, ap length at)) in
    elim n.from [
      | inl same ↦ record { good = []; parts = sym same; opens = (some.0, some.1, some.2); ends = beyond [] (sym same) }
      | inr t ↦
          let f = word_fails t.1 text bad t.3 in
          record { good = f.front; parts = f.text; opens = (t.0, f.more, subst (InTable table t.0) f.word t.2); ends = beyond f.front f.text }
    ]

pub table_reads : {K : Type 0} (table : List (List ℕ × K)) → is_prefix_free table ≡ true → (some : (k : K) × (w : List ℕ) × InTable table k w) → Reads (InTable table) (word_at table)
table_reads table free some = record {
  found = λ text x rest e. word_on_found text table text x rest e;
  again = λ k w rest i. word_again (w ++ rest) table k w rest free i;
  fault = λ text bad e. table_fault table text bad some e;
}
