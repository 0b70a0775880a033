-- The column of a fault, for any language that is read exactly.
use Rattle.schedule_text.proofs.Cited.{◌≡◌, ℕ, ◌+◌, ◌≤◌, List, [], ◌∷◌, ◌++◌, length, take, Ok, Err, refl, sym, ap, subst, ◌∙◌, append_assoc, arith, append-nil, length-append, take_at}
use Rattle.schedule_text.specs.Reading.{Reading}
use Rattle.schedule_text.specs.Fault.{Begins, IsColumn}
use Rattle.schedule_text.proofs.Exact.{Reads, not_both, ok_is}

abbrev pub IsText : {A : Type 0} → (A → List ℕ → Type 0) → List ℕ → Type 0
IsText {A} Spells text = (x : A) × Spells x text

take_front : (good bad text : List ℕ) → text ≡ good ++ bad → take (length good) text ≡ good
take_front good bad text e = rw e (take_at good bad (length good) refl)

column_at : (Is : List ℕ → Type 0) (good bad text : List ℕ) (column : ℕ) → text ≡ good ++ bad → column + length bad ≡ length text + 1 → Begins Is good → ((b : ℕ) (more : List ℕ) → bad ≡ b ∷ more → Begins Is (good ++ b ∷ []) → ⊥) → IsColumn Is text column
column_at Is good [] text column e c begins ends = record {
  good = length good;
  after = omega (arith, ap length e, length-append good []);
  within = omega (arith, ap length e, length-append good []);
  begins = rw (take_front good [] text e) begins;
  ends = λ le. absurd (omega (arith, ap length e, length-append good []));
}
column_at Is good (b ∷ more) text column e c begins ends =
    let len = ap length e ∙ length-append good (b ∷ more) in
    let whole : text ≡ (good ++ b ∷ []) ++ more = e ∙ sym (append_assoc good (b ∷ []) more) in
    let long : column ≡ length (good ++ b ∷ []) = omega (arith, len, length-append good (b ∷ [])) in
    record {
      good = length good;
      after = omega (arith, len);
      within = omega (arith, len);
      begins = rw (take_front good (b ∷ more) text e) begins;
      ends = λ le h. ends b more refl (subst (Begins Is) (ap (λ (n : ℕ). take n text) long ∙ take_front (good ++ b ∷ []) more text whole) h);
    }

pub bad_within : {A : Type 0} (S : A → List ℕ → Type 0) (read : List ℕ → Reading A) → Reads S read → (text bad : List ℕ) → read text ≡ Err bad → length bad ≤ length text
bad_within S read reads text bad e = let f = reads.fault text bad e in omega (arith, ap length f.parts, length-append f.good bad)

pub rest_within : {A : Type 0} (S : A → List ℕ → Type 0) (read : List ℕ → Reading A) → Reads S read → (text : List ℕ) (x : A) (rest : List ℕ) → read text ≡ Ok (x, rest) → length rest ≤ length text
rest_within S read reads text x rest e = let f = reads.found text x rest e in omega (arith, ap length f.parts, length-append f.front rest)

pub bad_column : {A : Type 0} (S : A → List ℕ → Type 0) (read : List ℕ → Reading A) → Reads S read → (text bad : List ℕ) (column : ℕ) → read text ≡ Err bad → column + length bad ≡ length text + 1 → IsColumn (IsText S) text column
bad_column S read reads text bad column e c =
    let f = reads.fault text bad e in
    column_at (IsText S) f.good bad text column f.parts c (f.opens.1, (f.opens.0, f.opens.2)) (λ b more at h. f.ends b more at (h.1.0, h.0, h.1.1))

long_column_cons : {A : Type 0} (S : A → List ℕ → Type 0) (read : List ℕ → Reading A) → Reads S read → (text : List ℕ) (x : A) (b : ℕ) (rest : List ℕ) (column : ℕ) → read text ≡ Ok (x, b ∷ rest) → column + length (b ∷ rest) ≡ length text + 1 → IsColumn (IsText S) text column
long_column_cons {A} S read reads text x b rest column e c =
    let f = reads.found text x (b ∷ rest) e in
    column_at (IsText S) f.front (b ∷ rest) text column f.parts c ([], subst (IsText S) (sym (append-nil f.front)) (x, f.spelled))
    (λ y more at h.
    let one = reads.again h.1.0 ((f.front ++ y ∷ []) ++ h.0) [] h.1.1 in
    let two = reads.again x f.front (y ∷ h.0) f.spelled in
    let same : ((f.front ++ y ∷ []) ++ h.0) ++ [] ≡ f.front ++ (y ∷ h.0) = append-nil _ ∙ append_assoc f.front (y ∷ []) h.0 in
    let p : (h.1.0, []) ≡ (x, y ∷ h.0) = ok_is (h.1.0, []) (x, y ∷ h.0) (sym one ∙ ap read same ∙ two) in
    let q : [] ≡ y ∷ h.0 = ap (λ (z : A × List ℕ). z.1) p in
    cc)

pub long_column : {A : Type 0} (S : A → List ℕ → Type 0) (read : List ℕ → Reading A) → Reads S read → (text : List ℕ) (x : A) (rest : List ℕ) (column : ℕ) → read text ≡ Ok (x, rest) → (length rest ≡ 0 → ⊥) → column + length rest ≡ length text + 1 → IsColumn (IsText S) text column
long_column S read reads text x [] column e some c = absurd (some refl)
long_column S read reads text x (b ∷ rest) column e some c = long_column_cons S read reads text x b rest column e c

pub found_whole : {A : Type 0} (S : A → List ℕ → Type 0) (read : List ℕ → Reading A) → Reads S read → (text : List ℕ) (x : A) (rest : List ℕ) → read text ≡ Ok (x, rest) → length rest ≡ 0 → S x text
found_whole S read reads text x [] e none = let f = reads.found text x [] e in subst (S x) (sym (f.parts ∙ append-nil f.front)) f.spelled
found_whole S read reads text x (b ∷ rest) e none = absurd (omega arith)

pub only_whole : {A : Type 0} (S : A → List ℕ → Type 0) (read : List ℕ → Reading A) → Reads S read → (text : List ℕ) (x other : A) (rest : List ℕ) → read text ≡ Ok (x, rest) → S other text → (x ≡ other) × (rest ≡ [])
only_whole {A} S read reads text x other rest e s =
    let p = ok_is (x, rest) (other, []) (sym e ∙ subst (λ (t : List ℕ). read t ≡ Ok (other, [])) (append-nil text) (reads.again other text [] s)) in
    (ap (λ (z : A × List ℕ). z.0) p, ap (λ (z : A × List ℕ). z.1) p)

pub no_whole : {A : Type 0} (S : A → List ℕ → Type 0) (read : List ℕ → Reading A) → Reads S read → (text bad : List ℕ) (other : A) → read text ≡ Err bad → S other text → ⊥
no_whole S read reads text bad other e s = not_both (read text) (other, []) bad (subst (λ (t : List ℕ). read t ≡ Ok (other, [])) (append-nil text) (reads.again other text [] s)) e
