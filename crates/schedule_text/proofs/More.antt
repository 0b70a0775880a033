-- What is read does not change when more text comes, for any language that is read exactly.
use Rattle.schedule_text.proofs.Cited.{◌≡◌, ℕ, ◌+◌, ◌≤◌, List, [], ◌∷◌, ◌++◌, length, take, drop, Ok, Err, refl, sym, ap, subst, ◌∙◌, append_assoc, arith, inl, inr, cases_lt, append-nil, length-append, take-append-drop, take-take}
use Rattle.schedule_text.specs.Reading.{Reading}
use Rattle.schedule_text.specs.Fault.{Begins, IsColumn, IsPartial, IsBad}
use Rattle.schedule_text.proofs.Exact.{Opens, Reads, ok_is, not_both, result_cases, seam}
use Rattle.schedule_text.proofs.Columns.{IsText, bad_column}

-- what stands at the front goes on standing there
pub ok_more : {A : Type 0} (S : A → List ℕ → Type 0) (read : List ℕ → Reading A) → Reads S read → (text more : List ℕ) (x : A) (rest : List ℕ) → read text ≡ Ok (x, rest) → read (text ++ more) ≡ Ok (x, rest ++ more)
ok_more S read reads text more x rest e =
    let f = reads.found text x rest e in
    ap read (ap (λ (t : List ℕ). t ++ more) f.parts ∙ append_assoc f.front rest more) ∙ reads.again x f.front (rest ++ more) f.spelled

-- what stands whole is read whole
pub whole : {A : Type 0} (S : A → List ℕ → Type 0) (read : List ℕ → Reading A) → Reads S read → (x : A) (text : List ℕ) → S x text → read text ≡ Ok (x, [])
whole S read reads x text s = subst (λ (t : List ℕ). read t ≡ Ok (x, [])) (append-nil text) (reads.again x text [] s)

-- the good front of a text, and one byte more of a list that goes on from it
longer : {A : Type 0} (S : A → List ℕ → Type 0) (good : List ℕ) (b : ℕ) (bs z rest : List ℕ) (x : A) (more : List ℕ) → (Opens S (good ++ b ∷ []) → ⊥) → b ∷ bs ≡ z ++ rest → S x ((good ++ z) ++ more) → z ≡ []
longer S good b bs [] rest x more ends e s = refl
longer S good b bs (c ∷ cs) rest x more ends e s =
    let heads : b ≡ c = cc in
    absurd (ends (x, cs ++ more, subst (S x) (rw heads (append_assoc good (c ∷ cs) more ∙ sym (append_assoc good (c ∷ []) (cs ++ more)))) s))

-- where a byte is bad nothing stands at the front, whatever follows
pub bad_front : {A : Type 0} (S : A → List ℕ → Type 0) (read : List ℕ → Reading A) → Reads S read → (text : List ℕ) (b : ℕ) (bs more : List ℕ) → read text ≡ Err (b ∷ bs) → (x : A) (front rest : List ℕ) → S x front → text ++ more ≡ front ++ rest → ⊥
bad_front {A} S read reads text b bs more e x front rest s parts =
    let f = reads.fault text (b ∷ bs) e in
    let split : f.good ++ (b ∷ bs ++ more) ≡ front ++ rest = sym (append_assoc f.good (b ∷ bs) more) ∙ ap (λ (t : List ℕ). t ++ more) (sym f.parts) ∙ parts in
    let none : (z : List ℕ) → f.good ≡ front ++ z → ⊥ = λ z at.
    not_both (read text) (x, z ++ b ∷ bs) (b ∷ bs) (ap read (f.parts ∙ ap (λ (t : List ℕ). t ++ b ∷ bs) at ∙ append_assoc front z (b ∷ bs)) ∙ reads.again x front (z ++ b ∷ bs) s) e in
    elim (seam f.good (b ∷ bs ++ more) front rest split) [
      | inl z ↦ none z.0 z.1
      | inr z ↦
          let nil = longer S f.good b (bs ++ more) z.0 rest x [] (f.ends b bs refl) z.2 (subst (S x) (z.1 ∙ sym (append-nil (f.good ++ z.0))) s) in
          none [] (sym (append-nil f.good) ∙ ap (λ (t : List ℕ). f.good ++ t) (sym nil) ∙ sym z.1 ∙ sym (append-nil front))
    ]

-- a bad byte stays bad
pub err_more : {A : Type 0} (S : A → List ℕ → Type 0) (read : List ℕ → Reading A) → Reads S read → (text : List ℕ) (b : ℕ) (bs more : List ℕ) → read text ≡ Err (b ∷ bs) → read (text ++ more) ≡ Err (b ∷ (bs ++ more))
err_more {A} S read reads text b bs more e =
    elim (result_cases (read (text ++ more))) [
      | inl p ↦ let g = reads.found (text ++ more) p.0.0 p.0.1 p.1 in absurd (bad_front S read reads text b bs more e p.0.0 g.front p.0.1 g.spelled g.parts)
      | inr p ↦
          let f = reads.fault text (b ∷ bs) e in
          let g = reads.fault (text ++ more) p.0 p.1 in
          let split : g.good ++ p.0 ≡ f.good ++ (b ∷ bs ++ more) = sym g.parts ∙ ap (λ (t : List ℕ). t ++ more) f.parts ∙ append_assoc f.good (b ∷ bs) more in
          elim (seam g.good p.0 f.good (b ∷ bs ++ more) split) [
            | inl z ↦
                let nil = longer S f.good b (bs ++ more) z.0 p.0 g.opens.0 g.opens.1 (f.ends b bs refl) z.2 (subst (λ (t : List ℕ). S g.opens.0 (t ++ g.opens.1)) z.1 g.opens.2) in
                p.1 ∙ ap (λ (t : List ℕ). Err t) (sym (z.2 ∙ ap (λ (t : List ℕ). t ++ p.0) nil))
            | inr z ↦ p.1 ∙ ap (λ (t : List ℕ). Err t) (z.2 ∙ ap (λ (t : List ℕ). t ++ (b ∷ bs ++ more)) (shorter g.good p.0 z.0 (b ∷ bs ++ more) f.opens.0 f.opens.1 g.ends z.2 (subst (λ (t : List ℕ). S f.opens.0 (t ++ f.opens.1)) z.1 f.opens.2)))
          ]
    ]
  where
    shorter : (good bad z rest : List ℕ) (x : A) (more : List ℕ) → ((b : ℕ) (more : List ℕ) → bad ≡ b ∷ more → Opens S (good ++ b ∷ []) → ⊥) → bad ≡ z ++ rest → S x ((good ++ z) ++ more) → z ≡ []
    shorter good bad [] rest x more ends e s = refl
    shorter good bad (c ∷ cs) rest x more ends e s = longer S good c (cs ++ rest) (c ∷ cs) rest x more (ends c (cs ++ rest) e) refl s

-- where nothing is bad, one byte more completes at most what ends with it
pub last_byte : {A : Type 0} (S : A → List ℕ → Type 0) (read : List ℕ → Reading A) → Reads S read → (text : List ℕ) (b : ℕ) (x : A) (rest : List ℕ) → read text ≡ Err [] → read (text ++ b ∷ []) ≡ Ok (x, rest) → rest ≡ []
last_byte S read reads text b x [] e is = refl
last_byte S read reads text b x (c ∷ cs) e is =
    let f = reads.found (text ++ b ∷ []) x (c ∷ cs) is in
    let none : (z : List ℕ) → text ≡ f.front ++ z → ⊥ = λ z at. not_both (read text) (x, z) [] (ap read at ∙ reads.again x f.front z f.spelled) e in
    elim (seam text (b ∷ []) f.front (c ∷ cs) f.parts) [
      | inl z ↦ absurd (none z.0 z.1)
      | inr z ↦
          let nil : z.0 ≡ [] = nil_of z.0 (b ∷ []) (c ∷ cs) z.2 (omega arith) in
          absurd (none [] (sym (append-nil text) ∙ ap (λ (t : List ℕ). text ++ t) (sym nil) ∙ sym z.1 ∙ sym (append-nil f.front)))
    ]
  where
    nil_of : (z u v : List ℕ) → u ≡ z ++ v → length u ≤ length v → z ≡ []
    nil_of [] u v e le = refl
    nil_of (d ∷ z) u v e le = absurd (omega (arith, ap length e, length-append (d ∷ z) v))

-- what begins a text of the language and goes on is good, and not whole
pub partial_reads : {A : Type 0} (S : A → List ℕ → Type 0) (read : List ℕ → Reading A) → Reads S read → (text : List ℕ) → IsPartial (IsText S) text → read text ≡ Err []
partial_reads {A} S read reads text p =
    let more = p.0 in let y = p.2.0 in let s = p.2.1 in
    elim (result_cases (read text)) [
      | inl q ↦
          let same = ok_is (y, []) (q.0.0, q.0.1 ++ more) (sym (whole S read reads y (text ++ more) s) ∙ ok_more S read reads text more q.0.0 q.0.1 q.1) in
          absurd (omega (arith, ap (λ (z : A × List ℕ). length z.1) same, length-append q.0.1 more, p.1))
      | inr q ↦ partial_err q.0 q.1
    ]
  where
    partial_err : (bad : List ℕ) → read text ≡ Err bad → read text ≡ Err []
    partial_err [] e = e
    partial_err (b ∷ bs) e = absurd (bad_front S read reads text b bs p.0 e p.2.0 (text ++ p.0) [] p.2.1 (sym (append-nil (text ++ p.0))))

pub reads_partial : {A : Type 0} (S : A → List ℕ → Type 0) (read : List ℕ → Reading A) → Reads S read → (text : List ℕ) → read text ≡ Err [] → IsPartial (IsText S) text
reads_partial {A} S read reads text e =
    let f = reads.fault text [] e in
    let at : text ≡ f.good = f.parts ∙ append-nil f.good in
    goes f.opens.1 f.opens.0 (subst (λ (t : List ℕ). S f.opens.0 (t ++ f.opens.1)) (sym at) f.opens.2)
  where
    goes : (more : List ℕ) (x : A) → S x (text ++ more) → IsPartial (IsText S) text
    goes [] x s = absurd (not_both (read text) (x, []) [] (whole S read reads x text (subst (S x) (append-nil text) s)) e)
    goes (b ∷ more) x s = (b ∷ more, omega arith, (x, s))

-- a bad byte, and a text that ends too early
pub bad_byte : {A : Type 0} (S : A → List ℕ → Type 0) (read : List ℕ → Reading A) → Reads S read → (text : List ℕ) (b : ℕ) (bs : List ℕ) (column : ℕ) → read text ≡ Err (b ∷ bs) → column + length (b ∷ bs) ≡ length text + 1 → IsBad (IsText S) text column
bad_byte S read reads text b bs column e c = record {
  none = λ front more s at. bad_front S read reads text b bs [] e s.0 front more s.1 (append-nil text ∙ at);
  place = bad_column S read reads text (b ∷ bs) column e c;
}

pub bad_end : {A : Type 0} (S : A → List ℕ → Type 0) (read : List ℕ → Reading A) → Reads S read → (text : List ℕ) → read text ≡ Err [] → IsBad (IsText S) text (length text + 1)
bad_end S read reads text e = record {
  none = λ front more s at. not_both (read text) (s.0, more) [] (ap read at ∙ reads.again s.0 front more s.1) e;
  place = bad_column S read reads text [] (length text + 1) e (omega arith);
}

-- a text has one column
begins_less : (Is : List ℕ → Type 0) (text : List ℕ) (m n : ℕ) → m ≤ n → Begins Is (take n text) → Begins Is (take m text)
begins_less Is text m n le b =
    let rest = drop m (take n text) in
    let split : take n text ≡ take m text ++ rest = sym (take-append-drop m (take n text)) ∙ ap (λ (t : List ℕ). t ++ rest) (take-take m n text le) in
    (rest ++ b.0, subst Is (ap (λ (t : List ℕ). t ++ b.0) split ∙ append_assoc (take m text) rest b.0) b.1)

column_le : (Is : List ℕ → Type 0) (text : List ℕ) (c d : ℕ) → IsColumn Is text c → IsColumn Is text d → d ≤ c
column_le Is text c d p q =
    elim (cases_lt c d) [
      | inl lt ↦ absurd (p.ends (omega (arith, q.after, q.within)) (begins_less Is text c q.good (omega (arith, q.after)) q.begins))
      | inr le ↦ le
    ]

pub column_once : (Is : List ℕ → Type 0) (text : List ℕ) (c d : ℕ) → IsColumn Is text c → IsColumn Is text d → c ≡ d
column_once Is text c d p q = omega (arith, column_le Is text c d p q, column_le Is text d c q p)

-- the two in one
pub bad_at : {A : Type 0} (S : A → List ℕ → Type 0) (read : List ℕ → Reading A) → Reads S read → (text bad : List ℕ) (column : ℕ) → read text ≡ Err bad → column + length bad ≡ length text + 1 → IsBad (IsText S) text column
bad_at S read reads text [] column e c =
    let at : length text + 1 ≡ column = omega (arith, c) in
    subst (λ (n : ℕ). IsBad (IsText S) text n) at (bad_end S read reads text e)
bad_at S read reads text (b ∷ bs) column e c = bad_byte S read reads text b bs column e c
