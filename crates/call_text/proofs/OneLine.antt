-- What is printed of an answer has no line feed but its last byte.
use Rattle.call_text.proofs.Cited.{◌≡◌, ℕ, zero, suc, ◌/◌, ◌%◌, ◌<◌, Bool, true, false, cond, eqb, List, [], ◌∷◌, ◌++◌, Option, Some, None, refl, arith, digits, digits_onto, digit_glyph, decimal, flat_map, nat_tests, list_any-append, Refusal, number_of}
use Rattle.call_text.specs.declared.answer.Called.{Called}
use Rattle.call_text.specs.declared.answer.Answer.{Answer}
use Rattle.call_text.specs.declared.answer.Answer.TheVariants.{Done, Quiet, Nothing, Says, WouldWait, Refused, Object, Ticket, Number, Words, Counted, Slots, Finished, Met, Left, Tidied}
use Rattle.call_text.specs.Answers.{spaced, numbers_text, words_text, called_text, pair_text, stop_text, back_text, answer_text, breaks}

join : (u v : List ℕ) → breaks u ≡ false → breaks v ≡ false → breaks (u ++ v) ≡ false
join u v a b = rw (list_any-append (λ x. eqb x 10) u v, a, b) refl

glyph : (d : ℕ) → d < 10 → eqb (digit_glyph false d) 10 ≡ false
glyph d lt = grind (arith, nat_tests)

one_more : (d : ℕ) (acc : List ℕ) → d < 10 → breaks acc ≡ false → breaks (digit_glyph false d ∷ acc) ≡ false
one_more d acc lt h = rw (glyph d lt) h

if_both : (b : Bool) (u v : List ℕ) → breaks u ≡ false → breaks v ≡ false → breaks (cond b u v) ≡ false
if_both true u v a c = a
if_both false u v a c = c

digits_none : (k n : ℕ) (acc : List ℕ) → breaks acc ≡ false → breaks (digits_onto k 10 false n acc) ≡ false
digits_none zero n acc h = h
digits_none (suc k) n acc h =
    let more = digit_glyph false (n % 10) ∷ acc in
    let one : breaks more ≡ false = one_more (n % 10) acc (omega arith) h in
    if_both (eqb (n / 10) 0) more (digits_onto k 10 false (n / 10) more) one (digits_none k (n / 10) more one)

decimal_none : (n : ℕ) → breaks (decimal n) ≡ false
unfolding digits
decimal_none n = digits_none 64 n [] refl

each_none : {X : Type 0} (f : X → List ℕ) → ((x : X) → breaks (f x) ≡ false) → (xs : List X) → breaks (flat_map f xs) ≡ false
each_none f h [] = refl
each_none f h (x ∷ xs) = join (f x) (flat_map f xs) (h x) (each_none f h xs)

numbers_none : (ns : List ℕ) → breaks (numbers_text ns) ≡ false
numbers_none = each_none spaced decimal_none

words_none : (ns : List ℕ) → breaks (words_text ns) ≡ false
words_none [] = refl
words_none (n ∷ ns) = join (decimal n) (numbers_text ns) (decimal_none n) (numbers_none ns)

called_none : (c : Called) → breaks (called_text c) ≡ false
called_none c = simp (list_any-append, decimal_none)

pair_none : (p : ℕ × ℕ) → breaks (pair_text p) ≡ false
pair_none p = simp (list_any-append, decimal_none)

stop_none : (stop : Option Refusal) → breaks (stop_text stop) ≡ false
stop_none None = refl
stop_none (Some refusal) = decimal_none (number_of refusal)

back_none : (back : List ℕ) → breaks (back_text back) ≡ false
back_none [] = refl
back_none (code ∷ more) = numbers_none (code ∷ more)

pub answer_none : (a : Answer) → breaks (answer_text a) ≡ false
answer_none Done = refl
answer_none Quiet = refl
answer_none Nothing = refl
answer_none (Says true) = refl
answer_none (Says false) = refl
answer_none WouldWait = refl
answer_none (Refused refusal) = decimal_none (number_of refusal)
answer_none (Object object) = decimal_none object
answer_none (Ticket ticket) = decimal_none ticket
answer_none (Number n) = decimal_none n
answer_none (Words words) = words_none words
answer_none (Counted seq records waiting) = simp (list_any-append, decimal_none, numbers_none)
answer_none (Slots slots) = numbers_none slots.items
answer_none (Finished called stop) = join (flat_map called_text called.items) (stop_text stop) (each_none called_text called_none called.items) (stop_none stop)
answer_none (Met pairs) = each_none pair_text pair_none pairs.items
answer_none (Left left) = decimal_none left
answer_none (Tidied retired left back stop) = simp (list_any-append, decimal_none, back_none, stop_none)
