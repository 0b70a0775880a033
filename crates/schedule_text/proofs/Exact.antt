-- What makes a reading function the reading of a language: each text of it is read, nothing else is, and a fault is at
-- the first byte with which no text of it goes on.
use Rattle.std.proofs.Common.{◌≡◌, ℕ, List, [], ◌∷◌, ◌++◌, Result, Ok, Err, refl, sym, ap, subst, ◌∙◌, append_assoc, inl, inr, ◌⊎◌}
use Rattle.schedule_text.specs.Reading.{Reading, ◌>>=◌}
use Rattle.schedule_text.specs.Grammar.{done}

-- some text that stands for a value begins so
abbrev pub Opens : {A : Type 0} → (A → List ℕ → Type 0) → List ℕ → Type 0
Opens {A} Spells front = (x : A) × (rest : List ℕ) × Spells x (front ++ rest)

pub record Fault {A : Type 0} (Spells : A → List ℕ → Type 0) (text bad : List ℕ) : Type 0 where
  pub good : List ℕ
  pub parts : text ≡ good ++ bad
  pub opens : Opens Spells good
  pub ends : (b : ℕ) (more : List ℕ) → bad ≡ b ∷ more → Opens Spells (good ++ b ∷ []) → ⊥

pub record Found {A : Type 0} (Spells : A → List ℕ → Type 0) (text : List ℕ) (x : A) (rest : List ℕ) : Type 0 where
  pub front : List ℕ
  pub spelled : Spells x front
  pub parts : text ≡ front ++ rest

pub record Reads {A : Type 0} (Spells : A → List ℕ → Type 0) (read : List ℕ → Reading A) : Type 0 where
  pub found : (text : List ℕ) (x : A) (rest : List ℕ) → read text ≡ Ok (x, rest) → Found Spells text x rest
  pub again : (x : A) (front rest : List ℕ) → Spells x front → read (front ++ rest) ≡ Ok (x, rest)
  pub fault : (text bad : List ℕ) → read text ≡ Err bad → Fault Spells text bad

-- ---- results and lists

pub result_cases : {A E : Type 0} (r : Result A E) → ((x : A) × (r ≡ Ok x)) ⊎ ((e : E) × (r ≡ Err e))
result_cases (Ok x) = inl (x, refl)
result_cases (Err e) = inr (e, refl)

abbrev pub ok : {A : Type 0} → A × List ℕ → Reading A
ok x = Ok x

abbrev pub err : {A : Type 0} → List ℕ → Reading A
err {A} x = Err x

pub ok_is : {A : Type 0} (x y : A × List ℕ) → ok x ≡ ok y → x ≡ y
ok_is x y e = cc

pub err_is : {A : Type 0} (x y : List ℕ) → err {A = A} x ≡ err y → x ≡ y
err_is {A} x y e = cc

pub not_both : {A : Type 0} (r : Reading A) (x : A × List ℕ) (bad : List ℕ) → r ≡ Ok x → r ≡ Err bad → ⊥
not_both r x bad e f = cc

-- two ways to cut one list
pub seam : (u v g w : List ℕ) → u ++ v ≡ g ++ w → ((z : List ℕ) × (u ≡ g ++ z) × (w ≡ z ++ v)) ⊎ ((z : List ℕ) × (g ≡ u ++ z) × (v ≡ z ++ w))
seam [] v g w e = inr (g, refl, e)
seam (b ∷ u) v [] w e = inl (b ∷ u, refl, sym e)
seam (b ∷ u) v (c ∷ g) w e =
    let heads : b ≡ c = cc in
    let tails : u ++ v ≡ g ++ w = cc in
    elim (seam u v g w tails) [
      | inl s ↦ inl (s.0, rw (heads, s.1) refl, s.2)
      | inr s ↦ inr (s.0, rw (heads, s.1) refl, s.2)
    ]

-- ---- nothing, and one thing after another

abbrev pub Done : {A : Type 0} → A → A → List ℕ → Type 0
Done x y text = (x ≡ y) × (text ≡ [])

pub done_reads : {A : Type 0} (x : A) → Reads (Done x) (done x)
done_reads {A} x = record {
  found = λ text y rest e. let p = ok_is (x, text) (y, rest) e in record { front = []; spelled = (ap (λ (q : A × List ℕ). q.0) p, refl); parts = ap (λ (q : A × List ℕ). q.1) p };
  again = λ y front rest s. rw (s.1, s.0) refl;
  fault = λ text bad e. absurd cc;
}

abbrev pub Then : {A B : Type 0} → (A → List ℕ → Type 0) → (A → B → List ℕ → Type 0) → B → List ℕ → Type 0
Then {A} {B} First Second y text = (x : A) × (u v : List ℕ) × First x u × Second x y v × (text ≡ u ++ v)

-- the same language in other words
pub reads_as : {A : Type 0} {S T : A → List ℕ → Type 0} {read : List ℕ → Reading A} → Reads S read → ((x : A) (u : List ℕ) → S x u → T x u) → ((x : A) (u : List ℕ) → T x u → S x u) → Reads T read
reads_as {A} {S} {T} {read} reads to back = record {
  found = λ text x rest e. let f = reads.found text x rest e in record { front = f.front; spelled = to x f.front f.spelled; parts = f.parts };
  again = λ x front rest s. reads.again x front rest (back x front s);
  fault = λ text bad e. let f = reads.fault text bad e in record { good = f.good; parts = f.parts; opens = (f.opens.0, f.opens.1, to f.opens.0 (f.good ++ f.opens.1) f.opens.2); ends = λ b more is o. f.ends b more is (o.0, o.1, back o.0 ((f.good ++ b ∷ []) ++ o.1) o.2) };
}

then_found : {A B : Type 0} (S : A → List ℕ → Type 0) (T : A → B → List ℕ → Type 0) (read : List ℕ → Reading A) (next : A → List ℕ → Reading B) → Reads S read → ((x : A) → Reads (T x) (next x))
    → (text : List ℕ) (y : B) (rest : List ℕ) (r : Reading A) → read text ≡ r → (r >>= λ p. next p.0 p.1) ≡ Ok (y, rest) → Found (Then S T) text y rest
then_found S T read next first second text y rest (Err bad) e is = absurd cc
then_found S T read next first second text y rest (Ok p) e is =
    let f = first.found text p.0 p.1 e in
    let g = (second p.0).found p.1 y rest is in
    record { front = f.front ++ g.front; spelled = (p.0, f.front, g.front, f.spelled, g.spelled, refl); parts = f.parts ∙ ap (λ (t : List ℕ). f.front ++ t) g.parts ∙ sym (append_assoc f.front g.front rest) }

then_fault : {A B : Type 0} (S : A → List ℕ → Type 0) (T : A → B → List ℕ → Type 0) (read : List ℕ → Reading A) (next : A → List ℕ → Reading B) → Reads S read → ((x : A) → Reads (T x) (next x))
    → ((x : A) → (y : B) × (v : List ℕ) × T x y v)
    → (text bad : List ℕ) (r : Reading A) → read text ≡ r → (r >>= λ p. next p.0 p.1) ≡ Err bad → Fault (Then S T) text bad
then_fault {A} {B} S T read next first second some text bad (Err worse) e is =
    let f = first.fault text bad (e ∙ ap (λ (w : List ℕ). err {A = A} w) (err_is {A = B} worse bad is)) in
    let goes_on = some f.opens.0 in
    record {
      good = f.good;
      parts = f.parts;
      opens = (goes_on.0, f.opens.1 ++ goes_on.1, (f.opens.0, f.good ++ f.opens.1, goes_on.1, f.opens.2, goes_on.2, sym (append_assoc f.good f.opens.1 goes_on.1)));
      ends = λ b more at o.
          let s = o.2 in
          elim (seam s.1 s.2 (f.good ++ b ∷ []) o.1 (sym s.5)) [
            | inl z ↦ f.ends b more at (s.0, z.0, subst (S s.0) z.1 s.3)
            | inr z ↦
                let whole : text ≡ s.1 ++ (z.0 ++ more) = f.parts ∙ ap (λ (t : List ℕ). f.good ++ t) at ∙ sym (append_assoc f.good (b ∷ []) more) ∙ ap (λ (t : List ℕ). t ++ more) z.1 ∙ append_assoc s.1 z.0 more in
                not_both (read text) (s.0, z.0 ++ more) worse (ap read whole ∙ first.again s.0 s.1 (z.0 ++ more) s.3) e
          ];
    }
then_fault {A} {B} S T read next first second some text bad (Ok p) e is =
    let f = first.found text p.0 p.1 e in
    let g = (second p.0).fault p.1 bad is in
    record {
      good = f.front ++ g.good;
      parts = f.parts ∙ ap (λ (t : List ℕ). f.front ++ t) g.parts ∙ sym (append_assoc f.front g.good bad);
      opens = (g.opens.0, g.opens.1, (p.0, f.front, g.good ++ g.opens.1, f.spelled, g.opens.2, append_assoc f.front g.good g.opens.1));
      ends = λ b more at o.
          let s = o.2 in
          let whole : s.1 ++ s.2 ≡ f.front ++ ((g.good ++ b ∷ []) ++ o.1) = sym s.5 ∙ simp append_assoc in
          let same = ok_is (s.0, s.2) (p.0, (g.good ++ b ∷ []) ++ o.1) (sym (first.again s.0 s.1 s.2 s.3) ∙ ap read whole ∙ first.again p.0 f.front ((g.good ++ b ∷ []) ++ o.1) f.spelled) in
          g.ends b more at (o.0, o.1, subst (λ (q : A × List ℕ). T q.0 o.0 q.1) same s.4);
    }

pub then_reads : {A B : Type 0} (S : A → List ℕ → Type 0) (T : A → B → List ℕ → Type 0) (read : List ℕ → Reading A) (next : A → List ℕ → Reading B) → Reads S read → ((x : A) → Reads (T x) (next x))
    → ((x : A) → (y : B) × (v : List ℕ) × T x y v) → Reads (Then S T) (λ text. read text >>= λ p. next p.0 p.1)
then_reads S T read next first second some = record {
  found = λ text y rest e. then_found S T read next first second text y rest (read text) refl e;
  again = λ y front rest s.
      let whole : front ++ rest ≡ s.1 ++ (s.2 ++ rest) = rw s.5 (append_assoc s.1 s.2 rest) in
      rw (whole, first.again s.0 s.1 (s.2 ++ rest) s.3) ((second s.0).again y s.2 rest s.4);
  fault = λ text bad e. then_fault S T read next first second some text bad (read text) refl e;
}
