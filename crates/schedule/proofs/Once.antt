-- Each text prints one thing.
use Rattle.schedule.proofs.Cited.{◌≡◌, ℕ, ◌+◌, ◌<◌, true, false, List, [], ◌∷◌, ◌++◌, length, Result, Ok, Err, refl, sym, ap, subst, ◌∙◌, append_assoc, arith, inl, inr, ◌⊎◌, All, append-nil, All-head, All-tail, Config, Line, fresh_world, is_supported, log_of, world_after_lines, Counts, ReplayFault, BadText, BadConfig, Read, Write, Memory, spelling, IsLine, LineText, IsLineText, lines_text, header, IsHeader, HeaderText, IsHeaderText, Reading, line_at, header_at, counts_of, end_line, line_after, IsBad, Reads, ok_is, not_both, result_cases, bad_within, line_reads, no_line, header_reads, bad_byte, bad_end, column_once, whole}
use Rattle.schedule.specs.Printed.{answers_of, Prints, IsBeginning}
use Rattle.schedule.proofs.Standing.{column_at, header_begins}

-- ---- some thing

bad_header : (text bad : List ℕ) → header_at text ≡ Err bad → IsBeginning text []
bad_header text [] e = ([], Err (BadText 1 (length text + 1)), inl record { bad = bad_end HeaderText header_at header_reads text e; first = refl; nothing = refl })
bad_header text (b ∷ more) e =
    let at = column_at (b ∷ more) text (bad_within HeaderText header_at header_reads text (b ∷ more) e) in
    ([], Err (BadText 1 at.0), inl record { bad = bad_byte HeaderText header_at header_reads text b more at.0 e at.1; first = refl; nothing = refl })

pub begins : (text : List ℕ) → IsBeginning text []
begins text =
    elim (result_cases (header_at text)) [
      | inl p ↦ header_begins text p.0.1 p.0.0 (is_supported p.0.0) p.1 refl
      | inr p ↦ bad_header text p.0 p.1
    ]

-- ---- and one only
abbrev NoLine : List ℕ → Type 0
NoLine text = (front more : List ℕ) → IsLineText front → text ≡ front ++ more → ⊥

nothing_is_no_line : NoLine []
nothing_is_no_line [] more l e = not_both (line_at []) (l.0, []) [] (whole LineText line_at line_reads l.0 [] l.1) no_line
nothing_is_no_line (b ∷ front) more l e = cc

-- two texts that stand at the front of one text
front_once : {A : Type 0} (S : A → List ℕ → Type 0) (read : List ℕ → Reading A) → Reads S read → (x y : A) (f g u v : List ℕ) → S x f → S y g → f ++ u ≡ g ++ v → (x ≡ y) × (u ≡ v)
front_once {A} S read reads x y f g u v s t e =
    let p = ok_is (x, u) (y, v) (sym (reads.again x f u s) ∙ ap read e ∙ reads.again y g v t) in
    (ap (λ (z : A × List ℕ). z.0) p, ap (λ (z : A × List ℕ). z.1) p)

cut_once : (ls ms : List Line) (u v : List ℕ) → All IsLine ls → All IsLine ms → NoLine u → NoLine v → lines_text ls ++ u ≡ lines_text ms ++ v → (ls ≡ ms) × (u ≡ v)
cut_once [] [] u v a b p q e = (refl, e)
cut_once [] (m ∷ ms) u v a b p q e =
    absurd (p (spelling m) (lines_text ms ++ v) (m, (All-head IsLine m ms b, refl)) (e ∙ append_assoc (spelling m) (lines_text ms) v))
cut_once (l ∷ ls) [] u v a b p q e =
    absurd (q (spelling l) (lines_text ls ++ u) (l, (All-head IsLine l ls a, refl)) (sym e ∙ append_assoc (spelling l) (lines_text ls) u))
cut_once (l ∷ ls) (m ∷ ms) u v a b p q e =
    let parts = sym (append_assoc (spelling l) (lines_text ls) u) ∙ e ∙ append_assoc (spelling m) (lines_text ms) v in
    let first = front_once LineText line_at line_reads l m (spelling l) (spelling m) (lines_text ls ++ u) (lines_text ms ++ v) (All-head IsLine l ls a, refl) (All-head IsLine m ms b, refl) parts in
    let rest = cut_once ls ms u v (All-tail IsLine l ls a) (All-tail IsLine m ms b) p q first.1 in
    (rw (first.0, rest.0) refl, rest.1)

-- what follows the lines, and what it makes of the result
abbrev counted : Config → List Line → Counts
counted c ls = counts_of (log_of (world_after_lines (fresh_world c) ls))

record Ended (c : Config) (ls : List Line) (left printed : List ℕ) (result : Result Counts ReplayFault) : Type 0 where
  nothing : left ≡ []
  answers : printed ≡ answers_of (fresh_world c) ls ++ end_line (counted c ls)
  good : result ≡ Ok (counted c ls)

record Broken (c : Config) (ls : List Line) (left printed : List ℕ) (result : Result Counts ReplayFault) : Type 0 where
  column : ℕ
  some : 0 < length left
  bad : IsBad IsLineText left column
  answers : printed ≡ answers_of (fresh_world c) ls
  fault : result ≡ Err (BadText (line_after (length ls)) column)

abbrev Tail : Config → List Line → List ℕ → List ℕ → Result Counts ReplayFault → Type 0
Tail c ls left printed result = Ended c ls left printed result ⊎ Broken c ls left printed result

tail_none : (c : Config) (ls : List Line) (left printed : List ℕ) (result : Result Counts ReplayFault) → Tail c ls left printed result → NoLine left
tail_none c ls left printed result (inl t) = subst NoLine (sym t.nothing) nothing_is_no_line
tail_none c ls left printed result (inr t) = t.bad.none

tail_once : (c : Config) (ls : List Line) (left p q : List ℕ) (r s : Result Counts ReplayFault) → Tail c ls left p r → Tail c ls left q s → (p ≡ q) × (r ≡ s)
tail_once c ls left p q r s (inl t) (inl u) = (t.answers ∙ sym u.answers, t.good ∙ sym u.good)
tail_once c ls left p q r s (inl t) (inr u) = absurd (omega (arith, ap length t.nothing, u.some))
tail_once c ls left p q r s (inr t) (inl u) = absurd (omega (arith, ap length u.nothing, t.some))
tail_once c ls left p q r s (inr t) (inr u) =
    let same = column_once IsLineText left t.column u.column t.bad.place u.bad.place in
    (t.answers ∙ sym u.answers, t.fault ∙ ap (λ (n : ℕ). Err (BadText (line_after (length ls)) n)) same ∙ sym u.fault)

-- what follows the header
record Refused (c : Config) (printed : List ℕ) (result : Result Counts ReplayFault) : Type 0 where
  unsupported : is_supported c ≡ false
  nothing : printed ≡ []
  fault : result ≡ Err BadConfig

record Stepped (c : Config) (rest printed : List ℕ) (result : Result Counts ReplayFault) : Type 0 where
  supported : is_supported c ≡ true
  lines : List Line
  each : All IsLine lines
  left : List ℕ
  parts : rest ≡ lines_text lines ++ left
  tail : Tail c lines left printed result

abbrev Body : Config → List ℕ → List ℕ → Result Counts ReplayFault → Type 0
Body c rest printed result = Refused c printed result ⊎ Stepped c rest printed result

body_once : (c : Config) (rest p q : List ℕ) (r s : Result Counts ReplayFault) → Body c rest p r → Body c rest q s → (p ≡ q) × (r ≡ s)
body_once c rest p q r s (inl a) (inl b) = (a.nothing ∙ sym b.nothing, a.fault ∙ sym b.fault)
body_once c rest p q r s (inl a) (inr b) = absurd (let e : false ≡ true = sym a.unsupported ∙ b.supported in cc)
body_once c rest p q r s (inr a) (inl b) = absurd (let e : false ≡ true = sym b.unsupported ∙ a.supported in cc)
body_once c rest p q r s (inr a) (inr b) =
    let cut = cut_once a.lines b.lines a.left b.left a.each b.each (tail_none c a.lines a.left p r a.tail) (tail_none c b.lines b.left q s b.tail) (sym a.parts ∙ b.parts) in
    tail_once c b.lines b.left p q r s (subst (λ (ls : List Line). Tail c ls b.left p r) cut.0 (subst (λ (t : List ℕ). Tail c a.lines t p r) cut.1 a.tail)) b.tail

-- a text, from its header on
record Headless (text printed : List ℕ) (result : Result Counts ReplayFault) : Type 0 where
  column : ℕ
  bad : IsBad IsHeaderText text column
  nothing : printed ≡ []
  fault : result ≡ Err (BadText 1 column)

record Headed (text printed : List ℕ) (result : Result Counts ReplayFault) : Type 0 where
  config : Config
  is_header : IsHeader config
  rest : List ℕ
  parts : text ≡ header config ++ rest
  body : Body config rest printed result

shape : (text printed : List ℕ) (result : Result Counts ReplayFault) → Prints text printed result → Headless text printed result ⊎ Headed text printed result
shape text printed (Ok counts) p =
    inr record {
      config = p.config;
      is_header = p.schedule.header;
      rest = lines_text p.lines;
      parts = p.whole;
      body = inr record {
        supported = p.schedule.supported;
        lines = p.lines;
        each = p.schedule.each;
        left = [];
        parts = sym (append-nil (lines_text p.lines));
        tail = inl record { nothing = refl; answers = p.answers ∙ ap (λ (k : Counts). answers_of (fresh_world p.config) p.lines ++ end_line k) p.counted; good = ap (λ (k : Counts). Ok k) p.counted };
      };
    }
shape text printed (Err BadConfig) p = inr record { config = p.config; is_header = p.is_header; rest = p.rest; parts = p.whole; body = inl record { unsupported = p.unsupported; nothing = p.nothing; fault = refl } }
shape text printed (Err (BadText line column)) (inl p) = inl record { column = column; bad = p.bad; nothing = p.nothing; fault = ap (λ (n : ℕ). Err (BadText n column)) p.first }
shape text printed (Err (BadText line column)) (inr p) =
    inr record {
      config = p.config;
      is_header = p.schedule.header;
      rest = lines_text p.lines ++ p.rest;
      parts = p.whole;
      body = inr record {
        supported = p.schedule.supported;
        lines = p.lines;
        each = p.schedule.each;
        left = p.rest;
        parts = refl;
        tail = inr record { column = column; some = p.some; bad = p.bad; answers = p.answers; fault = ap (λ (n : ℕ). Err (BadText n column)) p.number };
      };
    }
shape text printed (Err Read) p = absurd p
shape text printed (Err Write) p = absurd p
shape text printed (Err Memory) p = absurd p

shape_once : (text p q : List ℕ) (r s : Result Counts ReplayFault) → Headless text p r ⊎ Headed text p r → Headless text q s ⊎ Headed text q s → (p ≡ q) × (r ≡ s)
shape_once text p q r s (inl a) (inl b) =
    let same = column_once IsHeaderText text a.column b.column a.bad.place b.bad.place in
    (a.nothing ∙ sym b.nothing, a.fault ∙ ap (λ (n : ℕ). Err (BadText 1 n)) same ∙ sym b.fault)
shape_once text p q r s (inl a) (inr b) = absurd (a.bad.none (header b.config) b.rest (b.config, (b.is_header, refl)) b.parts)
shape_once text p q r s (inr a) (inl b) = absurd (b.bad.none (header a.config) a.rest (a.config, (a.is_header, refl)) a.parts)
shape_once text p q r s (inr a) (inr b) =
    let first = front_once HeaderText header_at header_reads a.config b.config (header a.config) (header b.config) a.rest b.rest (a.is_header, refl) (b.is_header, refl) (sym a.parts ∙ b.parts) in
    body_once b.config b.rest p q r s (subst (λ (c : Config). Body c b.rest p r) first.0 (subst (λ (t : List ℕ). Body a.config t p r) first.1 a.body)) b.body

pub prints_once : (text p q : List ℕ) (r s : Result Counts ReplayFault) → Prints text p r → Prints text q s → (p ≡ q) × (r ≡ s)
prints_once text p q r s a b = shape_once text p q r s (shape text p r a) (shape text q s b)
