-- The pieces of an event's text are read exactly: what stands before a byte that may end it, and that byte.
use Rattle.schedule_text.proofs.Cited.{arith, ◌≡◌, ℕ, true, false, List, [], ◌∷◌, ◌++◌, Option, Some, None, Ok, Err, refl, sym, ap, subst, ◌∙◌, append_assoc, inl, inr, lit<, lit≤, codes, decimal, is_ascii_digit, eqb-true, eq-eqb, append-nil, SectionId, ObjectId, object_text, found_text}
use Rattle.schedule_text.specs.Reading.{is_end}
use Rattle.schedule_text.specs.Grammar.{object}
use Rattle.schedule_text.specs.Spelling.{IsNumber}
use Rattle.schedule_text.specs.AnswerLines.{IsLong, IsSection, IsFound}
use Rattle.schedule_text.specs.AnswerGrammar.{found_words_of, byte_at, long_at, short_at, object_at, marked_object_at, section_at, found_rest, found_at}
use Rattle.schedule_text.specs.declared.answer_words.FoundWord.{FoundWord}
use Rattle.schedule_text.specs.declared.answer_words.FoundWord.TheVariants as found_words
use Rattle.schedule_text.proofs.Exact.{Fault, Found, Done, Then, ok, err, ok_is, err_is}
use Rattle.schedule_text.proofs.Tables.{InTable, chosen}
use Rattle.schedule_text.proofs.Numbers.{NoDigit, ended_reads, is_that}
use Rattle.schedule_text.proofs.Verbs.{EachRow, each_row}
use Rattle.schedule_text.proofs.Langs.{Lang, read_then, done_lang, number_lang, table_lang, as_lang}

-- ---- what is written, and a byte that ends it

abbrev pub Ended : {A : Type 0} → (A → List ℕ) → (A → Type 0) → ℕ → ℕ → A × ℕ → List ℕ → Type 0
Ended text Is end other p t = Is p.0 × (is_end end other p.1 ≡ true) × (t ≡ text p.0 ++ p.1 ∷ [])

-- the bytes that may end: an event's last number, and a number before a space or a point
pub record MayEnd (end other : ℕ) : Type 0 where
  pub no_digit : NoDigit end other
  pub some : is_end end other end ≡ true

pub may_end : (end other : ℕ) → is_ascii_digit end ≡ false → is_ascii_digit other ≡ false → MayEnd end other
may_end end other first second = grind (arith, eqb-true, eq-eqb)

-- ---- one byte

abbrev pub ByteText : ℕ → ℕ → ℕ → List ℕ → Type 0
ByteText end other b text = (is_end end other b ≡ true) × (text ≡ b ∷ [])

byte_again : (end other b : ℕ) (rest : List ℕ) → is_end end other b ≡ true → byte_at end other (b ∷ rest) ≡ Ok (b, rest)
unfolding byte_at
byte_again end other b rest e = rw e refl

byte_found : (end other : ℕ) (text : List ℕ) (x : ℕ) (rest : List ℕ) → byte_at end other text ≡ Ok (x, rest) → Found (ByteText end other) text x rest
unfolding byte_at
byte_found end other [] x rest e = absurd cc
byte_found end other (b ∷ bs) x rest e =
    elim (chosen (is_end end other b) (ok (b, bs)) (err (b ∷ bs)) (ok (x, rest)) e) [
      | inl h ↦
          let p = ok_is (b, bs) (x, rest) h.1 in
          record { front = b ∷ []; spelled = subst (λ (y : ℕ). ByteText end other y (b ∷ [])) (ap (λ (q : ℕ × List ℕ). q.0) p) (h.0, refl); parts = ap (λ (q : ℕ × List ℕ). b ∷ q.1) p }
      | inr h ↦ absurd (let p = h.1 in cc)
    ]

byte_fault : (end other : ℕ) (text bad : List ℕ) → is_end end other end ≡ true → byte_at end other text ≡ Err bad → Fault (ByteText end other) text bad
unfolding byte_at
byte_fault end other [] bad some e =
    let p = err_is {A = ℕ} [] bad e in
    record { good = []; parts = p; opens = (end, end ∷ [], (some, refl)); ends = λ b more at o. let q = p ∙ at in cc }
byte_fault end other (b ∷ bs) bad some e =
    elim (chosen (is_end end other b) (ok (b, bs)) (err (b ∷ bs)) (err bad) e) [
      | inl h ↦ absurd (let p = h.1 in cc)
      | inr h ↦
          let p = err_is {A = ℕ} (b ∷ bs) bad h.1 in
          record {
            good = [];
            parts = p;
            opens = (end, end ∷ [], (some, refl));
            ends = λ c more at o.
                let q : b ≡ o.0 = (let r = o.2.1 in let u = p ∙ at in cc) in
                let z : true ≡ false = sym o.2.0 ∙ ap (is_end end other) (sym q) ∙ h.0 in
                cc;
          }
    ]

pub byte_lang : (end other : ℕ) → is_end end other end ≡ true → Lang (ByteText end other) (byte_at end other)
byte_lang end other some = record {
  reads = record {
    found = λ text x rest e. byte_found end other text x rest e;
    again = λ x front rest s. rw s.1 (byte_again end other x rest s.0);
    fault = λ text bad e. byte_fault end other text bad some e;
  };
  some = (end, end ∷ [], (some, refl));
}

-- ---- numbers

abbrev pub LongText : ℕ → ℕ → ℕ × ℕ → List ℕ → Type 0
LongText = Ended decimal IsLong

abbrev pub ShortText : ℕ → ℕ → ℕ × ℕ → List ℕ → Type 0
ShortText = Ended decimal IsNumber

pub long_lang : (end other : ℕ) → MayEnd end other → Lang (LongText end other) (long_at end other)
unfolding long_at
long_lang end other may = record {
  reads = ended_reads 1000000000000000000 end other (lit< tt) (lit≤ tt) may.no_digit may.some;
  some = ((0, end), decimal 0 ++ end ∷ [], (lit< tt, may.some, refl));
}

pub short_lang : (end other : ℕ) → MayEnd end other → Lang (ShortText end other) (short_at end other)
unfolding short_at
short_lang end other may = record {
  reads = ended_reads 100000000 end other (lit< tt) (lit≤ tt) may.no_digit may.some;
  some = ((0, end), decimal 0 ++ end ∷ [], (lit< tt, may.some, refl));
}

-- ---- objects

abbrev pub number_of : ObjectId → List ℕ
number_of o = decimal o.0

abbrev pub IsObject : ObjectId → Type 0
IsObject o = IsLong o.0

abbrev pub ObjectText : ℕ → ℕ → ObjectId × ℕ → List ℕ → Type 0
ObjectText = Ended number_of IsObject

abbrev pub MarkedText : ℕ → ℕ → ObjectId × ℕ → List ℕ → Type 0
MarkedText = Ended object_text IsObject

abbrev as_object : ℕ × ℕ → ObjectId × ℕ
as_object p = (object p.0, p.1)

pub object_lang : (end other : ℕ) → MayEnd end other → Lang (ObjectText end other) (object_at end other)
unfolding object_at
object_lang end other may =
    as_lang (read_then _ (long_lang end other may) (λ p. done_lang (as_object p)))
    (λ o u s. subst (λ (p : ObjectId × ℕ). ObjectText end other p u) s.4.0 (s.3.0, s.3.1, s.5 ∙ rw s.4.1 (append-nil s.1) ∙ s.3.2))
    (λ o u s. ((o.0.0, o.1), u, [], (s.0, s.1, s.2), (refl, refl), sym (append-nil u)))

pub marked_lang : (end other : ℕ) → MayEnd end other → Lang (MarkedText end other) (marked_object_at end other)
unfolding marked_object_at
marked_lang end other may =
    as_lang (read_then _ (byte_lang 111 111 refl) (λ m. object_lang end other may))
    (λ o u s. (s.4.0, s.4.1, s.5 ∙ rw (s.3.1, is_that 111 s.0 s.3.0, s.4.2) refl))
    (λ o u s. (111, 111 ∷ [], number_of o.0 ++ o.1 ∷ [], (refl, refl), (s.0, s.1, refl), s.2))

-- ---- sections

abbrev pub section_tail : SectionId → List ℕ
section_tail s = decimal s.reader ++ codes "." ++ decimal s.ordinal

abbrev pub SectionText : ℕ → ℕ → SectionId × ℕ → List ℕ → Type 0
SectionText = Ended section_tail IsSection

abbrev as_section : ℕ → ℕ × ℕ → SectionId × ℕ
as_section r p = (record { reader = r; ordinal = p.0 }, p.1)

pub section_lang : (end other : ℕ) → MayEnd end other → Lang (SectionText end other) (section_at end other)
unfolding section_at
section_lang end other may =
    as_lang (read_then _ (number_lang 46 refl) (λ r. read_then _ (long_lang end other may) (λ p. done_lang (as_section r p))))
    (λ x u s.
    let l = s.4 in
    subst (λ (p : SectionId × ℕ). SectionText end other p u) l.4.0
    ((s.3.0, l.3.0), l.3.1, s.5 ∙ rw (s.3.1, l.5, l.4.1, l.3.2) (simp (append_assoc, append-nil))))
    (λ x u s.
    let tail = decimal x.0.ordinal ++ x.1 ∷ [] in
    (x.0.reader, decimal x.0.reader ++ 46 ∷ [], tail, (s.0.0, refl), ((x.0.ordinal, x.1), tail, [], (s.0.1, s.1, refl), (refl, refl), sym (append-nil tail)), s.2 ∙ simp append_assoc))

-- ---- what a section found

abbrev pub FoundText : ℕ → Option ObjectId × ℕ → List ℕ → Type 0
FoundText = Ended found_text IsFound 10

abbrev some_found : ObjectId × ℕ → Option ObjectId × ℕ
some_found o = (Some o.0, o.1)

abbrev none_found : ℕ → Option ObjectId × ℕ
none_found e = (None, e)

abbrev FoundRest : ℕ → FoundWord → Option ObjectId × ℕ → List ℕ → Type 0
FoundRest other found_words.Object = Then (ObjectText 10 other) (λ o. Done (some_found o))
FoundRest other found_words.Nothing = Then (ByteText 10 other) (λ e. Done (none_found e))

found_rest_lang : (other : ℕ) → MayEnd 10 other → (w : FoundWord) → Lang (FoundRest other w) (found_rest other w)
found_rest_lang other may found_words.Object = read_then _ (object_lang 10 other may) (λ o. done_lang (some_found o))
found_rest_lang other may found_words.Nothing = read_then _ (byte_lang 10 other may.some) (λ e. done_lang (none_found e))

abbrev found_row : ℕ → List ℕ → FoundWord → Type 0
found_row other w k = (x : Option ObjectId × ℕ) (u : List ℕ) → FoundRest other k x u → FoundText other x (w ++ u)

found_rows : (other : ℕ) → EachRow (found_row other) found_words_of
found_rows other = grind (arith, append-nil)

found_spelled : (other : ℕ) (x : Option ObjectId × ℕ) (u : List ℕ) → Then (InTable found_words_of) (FoundRest other) x u → FoundText other x u
found_spelled other x u s = subst (FoundText other x) (sym s.5) (each_row (found_row other) found_words_of s.0 s.1 (found_rows other) s.3 x s.2 s.4)

found_unspelled : (other : ℕ) (x : Option ObjectId × ℕ) (u : List ℕ) → FoundText other x u → Then (InTable found_words_of) (FoundRest other) x u
found_unspelled other (None, e) u s = (found_words.Nothing, codes "none", e ∷ [], inr (inl (refl, refl)), (e, e ∷ [], [], (s.1, refl), (refl, refl), refl), s.2)
found_unspelled other (Some o, e) u s =
    let tail = decimal o.0 ++ e ∷ [] in
    (found_words.Object, codes "o", tail, inl (refl, refl), ((o, e), tail, [], (s.0, s.1, refl), (refl, refl), sym (append-nil tail)), s.2)

pub found_lang : (other : ℕ) → MayEnd 10 other → Lang (FoundText other) (found_at other)
unfolding found_at
found_lang other may = as_lang (read_then _ (table_lang found_words_of refl (found_words.Object, codes "o", inl (refl, refl))) (found_rest_lang other may)) (found_spelled other) (found_unspelled other)
