-- Reading from left to right: a value and the bytes after it, or the bytes from the first bad one on.
use Rattle.std.specs.Prelude.{◌≡◌, ℕ, ◌+◌, ◌-◌, ◌*◌, List, [], ◌∷◌, length, Result, Ok, Err, nat_lt, Bool, true, false, ◌==◌, ◌&&◌, ◌||◌, if◌then◌else◌}
use Rattle.std.specs.Borrow.{Bor}
use Rattle.std.specs.Char.{is_ascii_digit}

abbrev pub Reading : Type 0 → Type 0
Reading A = Result (A × List ℕ) (List ℕ)

infixl 10 ◌>>=◌
abbrev pub ◌>>=◌ : {A B : Type 0} → Reading A → (A × List ℕ → Reading B) → Reading B
(Ok x) >>= f = f x
(Err bad) >>= f = Err bad

-- ---- words

unfoldable pub word_from : List ℕ → List ℕ → Result (List ℕ) (List ℕ)
word_from [] text = Ok text
word_from (w ∷ ws) [] = Err []
word_from (w ∷ ws) (b ∷ bs) = if w == b then word_from ws bs else Err (b ∷ bs)

-- the one that leaves less
abbrev pub further : List ℕ → List ℕ → List ℕ
further bad rest = if nat_lt (length rest) (length bad) then rest else bad

abbrev pub or_else : {K : Type 0} → Result (List ℕ) (List ℕ) → K → (List ℕ → Reading K) → Reading K
or_else (Ok rest) k f = Ok (k, rest)
or_else (Err rest) k f = f rest

-- the word of a table that stands at the front; bad is where the best of the earlier ones ended
unfoldable pub word_on : {K : Type 0} → List ℕ → List (List ℕ × K) → List ℕ → Reading K
word_on bad [] text = Err bad
word_on bad (e ∷ es) text = or_else (word_from e.0 text) e.1 (λ rest. word_on (further bad rest) es text)

abbrev pub word_at : {K : Type 0} → List (List ℕ × K) → List ℕ → Reading K
word_at table text = word_on text table text

-- at some place the two have different bytes
abbrev pub differ : List ℕ → List ℕ → Bool
differ [] w = false
differ (b ∷ v) [] = false
differ (b ∷ v) (c ∷ w) = if b == c then differ v w else true

abbrev pub differs_from_all : {K : Type 0} → List ℕ → List (List ℕ × K) → Bool
differs_from_all v [] = true
differs_from_all v (e ∷ es) = differ v e.0 && differs_from_all v es

-- no word begins another
abbrev pub is_prefix_free : {K : Type 0} → List (List ℕ × K) → Bool
is_prefix_free [] = true
is_prefix_free (e ∷ es) = differs_from_all e.0 es && is_prefix_free es

-- ---- numbers

-- one of the two bytes that may end a number
abbrev pub is_end : ℕ → ℕ → ℕ → Bool
is_end end other b = (b == end) || (b == other)

-- more digits of a number, of which there are some, and the byte that ends it; a value below `room` takes one more
unfoldable pub digits_on : ℕ → ℕ → ℕ → ℕ → List ℕ → Reading (ℕ × ℕ)
digits_on room value end other [] = Err []
digits_on room value end other (b ∷ bs) =
    if is_end end other b then Ok ((value, b), bs)
    else (if is_ascii_digit b && (nat_lt 0 value && nat_lt value room) then digits_on room (10 * value + (b - 48)) end other bs else Err (b ∷ bs))

unfoldable pub ended_number_at : ℕ → ℕ → ℕ → List ℕ → Reading (ℕ × ℕ)
ended_number_at room end other [] = Err []
ended_number_at room end other (b ∷ bs) = if is_ascii_digit b then digits_on room (b - 48) end other bs else Err (b ∷ bs)

-- a number of at most nine digits, with one byte that ends it
unfoldable pub number_at : ℕ → List ℕ → Reading ℕ
number_at end text = ended_number_at 100000000 end end text >>= λ n. Ok (n.0.0, n.1)

-- ---- what code returned

abbrev pub value_row : {K : Type 0} → Bor (List ℕ) × K → List ℕ × K
value_row e = (e.0.now, e.1)

abbrev pub GivesRest : Result (Bor (List ℕ)) (Bor (List ℕ)) → Result (List ℕ) (List ℕ) → Type 0
GivesRest (Ok rest) read = read ≡ Ok rest.now
GivesRest (Err bad) read = read ≡ Err bad.now

-- view is how the value is seen
abbrev pub Gives : {X Y : Type 0} → (X → Y) → Result (X × Bor (List ℕ)) (Bor (List ℕ)) → Reading Y → Type 0
Gives view (Ok x) read = read ≡ Ok (view x.0, x.1.now)
Gives view (Err bad) read = read ≡ Err bad.now
