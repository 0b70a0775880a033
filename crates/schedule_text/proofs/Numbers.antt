-- A number and the byte that ends it are read exactly.
use Rattle.schedule_text.proofs.Cited.{and_parts, ◌≡◌, ℕ, ◌+◌, ◌-◌, ◌*◌, ◌/◌, ◌%◌, ◌^◌, ◌<◌, ◌≤◌, Bool, true, false, ltb, List, [], ◌∷◌, ◌++◌, Ok, Err, refl, sym, ap, subst, ◌∙◌, append_assoc, arith, inl, inr, ◌⊎◌, lit<, lit≤, ◌&&◌, is_ascii_digit, decimal, eqb-true, eq-eqb, ltb-true, lt-ltb, nat_tests, decimal_digit, decimal_step, decimal_by_steps, append-nil}
use Rattle.schedule_text.specs.Reading.{Reading, is_end, digits_on, ended_number_at, number_at}
use Rattle.schedule_text.specs.Grammar.{done}
use Rattle.schedule_text.specs.Spelling.{IsNumber}
use Rattle.schedule_text.proofs.Exact.{Opens, Fault, Found, Reads, Done, Then, ok, err, ok_is, err_is, not_both, reads_as, then_reads, done_reads}
use Rattle.schedule_text.proofs.Tables.{chosen}

record GoesOn (room value b : ℕ) : Type 0 where
  digit : is_ascii_digit b ≡ true
  some : 0 < value
  below : value < room

-- the digits after this value make that one
abbrev Extends : ℕ → ℕ → List ℕ → ℕ → Type 0
Extends room value [] m = value ≡ m
Extends room value (d ∷ ds) m = GoesOn room value d × Extends room (10 * value + (d - 48)) ds m

abbrev DigitsText : ℕ → ℕ → ℕ → ℕ → ℕ × ℕ → List ℕ → Type 0
DigitsText room value end other m text = (ds : List ℕ) × Extends room value ds m.0 × (is_end end other m.1 ≡ true) × (text ≡ ds ++ m.1 ∷ [])

-- no digit ends a number
abbrev pub NoDigit : ℕ → ℕ → Type 0
NoDigit end other = (e : ℕ) → is_end end other e ≡ true → is_ascii_digit e ≡ false

abbrev may_go_on : ℕ → ℕ → ℕ → Bool
may_go_on room value b = is_ascii_digit b && (ltb 0 value && ltb value room)

goes_on : (room value b : ℕ) → may_go_on room value b ≡ true → GoesOn room value b
goes_on room value b e = grind (arith, and_parts, ltb-true)

may : (room value b : ℕ) → GoesOn room value b → may_go_on room value b ≡ true
may room value b g = rw (g.digit, lt-ltb _ _ g.some, lt-ltb _ _ g.below) refl

false_or_true : (b : Bool) → (b ≡ true → ⊥) → b ≡ false
false_or_true b n = grind arith

not_end : (room b end other value : ℕ) → NoDigit end other → GoesOn room value b → is_end end other b ≡ false
not_end room b end other value nd g = false_or_true (is_end end other b) (λ e. let p : true ≡ false = sym g.digit ∙ nd b e in cc)

-- what one byte does
record Turn (room value end other b : ℕ) (bs : List ℕ) (z : Reading (ℕ × ℕ)) : Type 0 where
  case : ((is_end end other b ≡ true) × (z ≡ Ok ((value, b), bs))) ⊎ ((GoesOn room value b × (z ≡ digits_on room (10 * value + (b - 48)) end other bs)) ⊎ ((is_end end other b ≡ true → ⊥) × (GoesOn room value b → ⊥) × (z ≡ Err (b ∷ bs))))

turn : (room value end other b : ℕ) (bs : List ℕ) → Turn room value end other b bs (digits_on room value end other (b ∷ bs))
unfolding digits_on
turn room value end other b bs = grind (arith, chosen, goes_on, may)

digits_found : (room value end other : ℕ) (text : List ℕ) (x : ℕ × ℕ) (rest : List ℕ) → digits_on room value end other text ≡ Ok (x, rest) → Found (DigitsText room value end other) text x rest
unfolding digits_on
digits_found room value end other [] x rest e = absurd cc
digits_found room value end other (b ∷ bs) x rest e =
    elim (turn room value end other b bs).case [
      | inl h ↦
          let p = ok_is ((value, b), bs) (x, rest) (sym h.1 ∙ e) in
          record {
            front = b ∷ [];
            spelled = subst (λ (y : ℕ × ℕ). DigitsText room value end other y (b ∷ [])) (ap (λ (q : (ℕ × ℕ) × List ℕ). q.0) p) ([], refl, h.0, refl);
            parts = ap (λ (q : (ℕ × ℕ) × List ℕ). b ∷ q.1) p;
          }
      | inr h ↦ elim h [
        | inl k ↦
            let f = digits_found room (10 * value + (b - 48)) end other bs x rest (sym k.1 ∙ e) in
            record { front = b ∷ f.front; spelled = (b ∷ f.spelled.0, (k.0, f.spelled.1), f.spelled.2, ap (λ (t : List ℕ). b ∷ t) f.spelled.3); parts = ap (λ (t : List ℕ). b ∷ t) f.parts }
        | inr k ↦ absurd (not_both (digits_on room value end other (b ∷ bs)) (x, rest) (b ∷ bs) e k.2)
      ]
    ]

digits_again : (room value end other : ℕ) (m : ℕ × ℕ) (ds rest : List ℕ) → NoDigit end other → Extends room value ds m.0 → is_end end other m.1 ≡ true → digits_on room value end other (ds ++ m.1 ∷ rest) ≡ Ok (m, rest)
unfolding digits_on
digits_again room value end other m [] rest nd x e = rw (e, x) refl
digits_again room value end other m (d ∷ ds) rest nd x e = rw (not_end room d end other value nd x.0, may room value d x.0) (digits_again room (10 * value + (d - 48)) end other m ds rest nd x.1 e)

-- a text that begins with a digit has more of them
digit_first : (room value end other b : ℕ) (front : List ℕ) (m : ℕ × ℕ) (rest ds : List ℕ) → NoDigit end other → GoesOn room value b → Extends room value ds m.0 → is_end end other m.1 ≡ true → b ∷ (front ++ rest) ≡ ds ++ m.1 ∷ [] → Opens (DigitsText room (10 * value + (b - 48)) end other) front
digit_first room value end other b front m rest [] nd g x is e = absurd (let p : b ≡ m.1 = cc in let q : true ≡ false = sym is ∙ ap (is_end end other) (sym p) ∙ not_end room b end other value nd g in cc)
digit_first room value end other b front m rest (d ∷ ds) nd g x is e =
    let p : b ≡ d = cc in
    let q : front ++ rest ≡ ds ++ m.1 ∷ [] = cc in
    (m, rest, (ds, rw p x.1, is, q))

none : (room value end other b c : ℕ) (m : ℕ × ℕ) (rest ds : List ℕ) → (is_end end other b ≡ true → ⊥) → (GoesOn room value b → ⊥) → b ≡ c → Extends room value ds m.0 → is_end end other m.1 ≡ true → c ∷ rest ≡ ds ++ m.1 ∷ [] → ⊥
none room value end other b c m rest [] ne stop same x is e = ne (let p : c ≡ m.1 = cc in ap (is_end end other) (same ∙ p) ∙ is)
none room value end other b c m rest (d ∷ ds) ne stop same x is e = stop (let p : c ≡ d = cc in subst (GoesOn room value) (sym (same ∙ p)) x.0)

digits_fault : (room value end other : ℕ) (text bad : List ℕ) → NoDigit end other → is_end end other end ≡ true → digits_on room value end other text ≡ Err bad → Fault (DigitsText room value end other) text bad
unfolding digits_on
digits_fault room value end other [] bad nd some e =
    let p = err_is {A = ℕ × ℕ} [] bad e in
    record { good = []; parts = p; opens = ((value, end), end ∷ [], ([], refl, some, refl)); ends = λ b more at o. let q = p ∙ at in cc }
digits_fault room value end other (b ∷ bs) bad nd some e =
    elim (turn room value end other b bs).case [
      | inl h ↦ absurd (not_both (digits_on room value end other (b ∷ bs)) ((value, b), bs) bad h.1 e)
      | inr h ↦ elim h [
        | inl k ↦
            let f = digits_fault room (10 * value + (b - 48)) end other bs bad nd some (sym k.1 ∙ e) in
            record {
              good = b ∷ f.good;
              parts = ap (λ (t : List ℕ). b ∷ t) f.parts;
              opens = (f.opens.0, f.opens.1, (b ∷ f.opens.2.0, (k.0, f.opens.2.1), f.opens.2.2, ap (λ (t : List ℕ). b ∷ t) f.opens.2.3));
              ends = λ c more at o. f.ends c more at (digit_first room value end other b (f.good ++ c ∷ []) o.0 o.1 o.2.0 nd k.0 o.2.1 o.2.2 o.2.3);
            }
        | inr k ↦
            let p = err_is {A = ℕ × ℕ} (b ∷ bs) bad (sym k.2 ∙ e) in
            record {
              good = [];
              parts = p;
              opens = ((value, end), end ∷ [], ([], refl, some, refl));
              ends = λ c more at o. none room value end other b c o.0 o.1 o.2.0 k.0 k.1 (let q = p ∙ at in cc) o.2.1 o.2.2 o.2.3;
            }
      ]
    ]

-- ---- the first digit too

record FirstText (room end other : ℕ) (m : ℕ × ℕ) (text : List ℕ) : Type 0 where
  first : ℕ
  digit : is_ascii_digit first ≡ true
  tail : List ℕ
  digits : DigitsText room (first - 48) end other m tail
  parts : text ≡ first ∷ tail

zero_text : (room end other : ℕ) → is_end end other end ≡ true → FirstText room end other (0, end) (48 ∷ end ∷ [])
zero_text room end other some = record { first = 48; digit = refl; tail = end ∷ []; digits = ([], refl, some, refl); parts = refl }

number_found : (room end other : ℕ) (text : List ℕ) (x : ℕ × ℕ) (rest : List ℕ) → ended_number_at room end other text ≡ Ok (x, rest) → Found (FirstText room end other) text x rest
unfolding ended_number_at
number_found room end other [] x rest e = absurd cc
number_found room end other (b ∷ bs) x rest e =
    elim (chosen (is_ascii_digit b) (digits_on room (b - 48) end other bs) (err (b ∷ bs)) (ok (x, rest)) e) [
      | inl h ↦ let f = digits_found room (b - 48) end other bs x rest h.1 in record { front = b ∷ f.front; spelled = record { first = b; digit = h.0; tail = f.front; digits = f.spelled; parts = refl }; parts = ap (λ (t : List ℕ). b ∷ t) f.parts }
      | inr h ↦ absurd (let p = h.1 in cc)
    ]

number_fault : (room end other : ℕ) (text bad : List ℕ) → NoDigit end other → is_end end other end ≡ true → ended_number_at room end other text ≡ Err bad → Fault (FirstText room end other) text bad
unfolding ended_number_at
number_fault room end other [] bad nd some e =
    let p = err_is {A = ℕ × ℕ} [] bad e in
    record { good = []; parts = p; opens = ((0, end), 48 ∷ end ∷ [], zero_text room end other some); ends = λ b more at o. let q = p ∙ at in cc }
number_fault room end other (b ∷ bs) bad nd some e =
    elim (chosen (is_ascii_digit b) (digits_on room (b - 48) end other bs) (err (b ∷ bs)) (err bad) e) [
      | inl h ↦
          let f = digits_fault room (b - 48) end other bs bad nd some h.1 in
          record {
            good = b ∷ f.good;
            parts = ap (λ (t : List ℕ). b ∷ t) f.parts;
            opens = (f.opens.0, f.opens.1, record { first = b; digit = h.0; tail = f.good ++ f.opens.1; digits = f.opens.2; parts = refl });
            ends = λ c more at o.
                let s = o.2 in
                let p : b ≡ s.first = (let q = s.parts in cc) in
                let t : (f.good ++ c ∷ []) ++ o.1 ≡ s.tail = (let q = s.parts in cc) in
                f.ends c more at (o.0, o.1, subst (λ (v : ℕ). DigitsText room (v - 48) end other o.0 ((f.good ++ c ∷ []) ++ o.1)) (sym p) (rw t s.digits));
          }
      | inr h ↦
          let p = err_is {A = ℕ × ℕ} (b ∷ bs) bad h.1 in
          record {
            good = [];
            parts = p;
            opens = ((0, end), 48 ∷ end ∷ [], zero_text room end other some);
            ends = λ c more at o.
                let s = o.2 in
                let q : b ≡ s.first = (let r = s.parts in let u = p ∙ at in cc) in
                let z : true ≡ false = sym s.digit ∙ ap is_ascii_digit (sym q) ∙ h.0 in
                cc;
          }
    ]

number_again : (room end other : ℕ) (m : ℕ × ℕ) (text rest : List ℕ) → NoDigit end other → FirstText room end other m text → ended_number_at room end other (text ++ rest) ≡ Ok (m, rest)
unfolding ended_number_at
number_again room end other m text rest nd s = grind (arith, append_assoc, digits_again)

first_reads : (room end other : ℕ) → NoDigit end other → is_end end other end ≡ true → Reads (FirstText room end other) (ended_number_at room end other)
first_reads room end other nd some = record {
  found = λ text x rest e. number_found room end other text x rest e;
  again = λ x front rest s. number_again room end other x front rest nd s;
  fault = λ text bad e. number_fault room end other text bad nd some e;
}

-- ---- the digits are those of `decimal`

-- a number below a limit, and the byte that ends it
abbrev pub EndedText : ℕ → ℕ → ℕ → ℕ × ℕ → List ℕ → Type 0
EndedText limit end other m text = (m.0 < limit) × (is_end end other m.1 ≡ true) × (text ≡ decimal m.0 ++ m.1 ∷ [])

abbrev pub NumberText : ℕ → ℕ → List ℕ → Type 0
NumberText end n text = IsNumber n × (text ≡ decimal n ++ end ∷ [])

digit_range : (b : ℕ) → is_ascii_digit b ≡ true → (48 ≤ b) × (b ≤ 57)
digit_range b e = grind (arith, nat_tests)

decimal_more : (room n d : ℕ) → room ≤ 1000000000000000000 → GoesOn room n d → decimal (10 * n + (d - 48)) ≡ decimal n ++ d ∷ []
decimal_more room n d most g = grind (arith, digit_range, decimal_step)

extends_decimal : (room n : ℕ) (ds : List ℕ) (m : ℕ) → room ≤ 1000000000000000000 → n < 10 * room → Extends room n ds m → (m < 10 * room) × (decimal m ≡ decimal n ++ ds)
extends_decimal room n [] m most lt x = (rw (← x) lt, rw (← x) (sym (append-nil (decimal n))))
extends_decimal room n (d ∷ ds) m most lt x =
    let r = digit_range d x.0.digit in
    let less = x.0.below in
    let f = extends_decimal room (10 * n + (d - 48)) ds m most (omega (arith, r.1, less)) x.1 in
    (f.0, f.1 ∙ ap (λ (t : List ℕ). t ++ ds) (decimal_more room n d most x.0) ∙ append_assoc (decimal n) (d ∷ []) ds)

-- text that a number's digits give
record Digits (room n : ℕ) (text : List ℕ) : Type 0 where
  first : ℕ
  digit : is_ascii_digit first ≡ true
  rest : List ℕ
  parts : text ≡ first ∷ rest
  extends : n < 10 * room → Extends room (first - 48) rest n

is_digit_code : (k : ℕ) → k < 10 → is_ascii_digit (48 + k) ≡ true
is_digit_code k lt = grind (arith, nat_tests)

extends_more : (room a : ℕ) (ds : List ℕ) (n d m : ℕ) → Extends room a ds n → GoesOn room n d → 10 * n + (d - 48) ≡ m → Extends room a (ds ++ d ∷ []) m
extends_more room a [] n d m x g e = (rw x g, rw x e)
extends_more room a (b ∷ ds) n d m x g e = (x.0, extends_more room (10 * a + (b - 48)) ds n d m x.1 g e)

digits_of_number : (room n : ℕ) → n < 2 ^ 64 → Digits room n (decimal n)
digits_of_number room = decimal_by_steps (Digits room)
    (λ n lt. record { first = 48 + n; digit = is_digit_code n lt; rest = []; parts = refl; extends = λ small. omega arith })
    (λ n text big d. record {
      first = d.first;
      digit = d.digit;
      rest = d.rest ++ (48 + n % 10) ∷ [];
      parts = rw d.parts refl;
      extends = λ small. extends_more room (d.first - 48) d.rest (n / 10) (48 + n % 10) n (d.extends (omega arith)) (record { digit = is_digit_code (n % 10) (omega arith); some = omega arith; below = omega arith }) (omega arith);
    })

number_spelled : (room end other : ℕ) → 0 < room → room ≤ 1000000000000000000 → (m : ℕ × ℕ) (text : List ℕ) → FirstText room end other m text → EndedText (10 * room) end other m text
number_spelled room end other least most m text s = grind (arith, digit_range, extends_decimal, decimal_digit)

number_unspelled : (room end other : ℕ) → room ≤ 1000000000000000000 → (m : ℕ × ℕ) (text : List ℕ) → EndedText (10 * room) end other m text → FirstText room end other m text
number_unspelled room end other most m text s =
    let d = digits_of_number room m.0 (omega (arith, s.0, most)) in
    record { first = d.first; digit = d.digit; tail = d.rest ++ m.1 ∷ []; digits = (d.rest, d.extends s.0, s.1, refl); parts = s.2 ∙ ap (λ (t : List ℕ). t ++ m.1 ∷ []) d.parts }

pub ended_reads : (room end other : ℕ) → 0 < room → room ≤ 1000000000000000000 → NoDigit end other → is_end end other end ≡ true → Reads (EndedText (10 * room) end other) (ended_number_at room end other)
ended_reads room end other least most nd some = reads_as (first_reads room end other nd some) (number_spelled room end other least most) (number_unspelled room end other most)

-- ---- with one byte that may end it

same_end : (end : ℕ) → is_end end end end ≡ true
same_end end = rw (eq-eqb end end refl) refl

pub is_that : (end e : ℕ) → is_end end end e ≡ true → e ≡ end
is_that end e is = grind (arith, eqb-true)

ends_once : (end : ℕ) → is_ascii_digit end ≡ false → NoDigit end end
ends_once end nd e is = ap is_ascii_digit (is_that end e is) ∙ nd

abbrev Plain : ℕ × ℕ → ℕ → List ℕ → Type 0
Plain m = Done m.0

plain_spelled : (end n : ℕ) (text : List ℕ) → Then (EndedText 1000000000 end end) Plain n text → NumberText end n text
plain_spelled end n text s = grind (arith, append-nil, is_that)

plain_unspelled : (end n : ℕ) (text : List ℕ) → NumberText end n text → Then (EndedText 1000000000 end end) Plain n text
plain_unspelled end n text s = ((n, end), text, [], (s.0, same_end end, s.1), (refl, refl), sym (append-nil text))

pub number_reads : (end : ℕ) → is_ascii_digit end ≡ false → Reads (NumberText end) (number_at end)
unfolding number_at
number_reads end nd =
    reads_as (then_reads (EndedText 1000000000 end end) Plain (ended_number_at 100000000 end end) (λ m. done m.0) (ended_reads 100000000 end end (lit< tt) (lit≤ tt) (ends_once end nd) (same_end end)) (λ m. done_reads m.0) (λ m. (m.0, [], (refl, refl))))
    (plain_spelled end) (plain_unspelled end)
