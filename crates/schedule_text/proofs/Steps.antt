-- One turn of the loops over a word and over a table of words.
use Rattle.schedule_text.proofs.Cited.{◌≡◌, ℕ, zero, suc, ◌+◌, ◌<◌, List, [], ◌∷◌, length, get_or, drop, map, Result, Err, refl, arith, add-one, Bor, drop_more}
use Rattle.schedule_text.specs.Reading.{word_from, word_on, further, or_else, value_row}

pub word_ends : (word : List ℕ) (i : ℕ) (rest : List ℕ) → i < length word → length rest < 1 → word_from (drop i word) rest ≡ Err rest
unfolding word_from
word_ends word i [] lt short = rw (drop_more word i 0 lt) refl
word_ends word i (b ∷ bs) lt short = absurd (omega arith)

pub rows_at : {K : Type 0} (table : List (Bor (List ℕ) × K)) (i : ℕ) (row : Bor (List ℕ) × K) → i < length table → row ≡ get_or table i row → drop i (map value_row table) ≡ value_row row ∷ drop (i + 1) (map value_row table)
rows_at [] i row lt e = absurd (omega arith)
rows_at (x ∷ xs) zero row lt e = rw (← e) refl
rows_at (x ∷ xs) (suc i) row lt e = rw (add-one) (rw add-one at (rows_at xs i row (omega arith) e))

pub turn : {K : Type 0} (table : List (Bor (List ℕ) × K)) (i : ℕ) (row : Bor (List ℕ) × K) (bad text : List ℕ) (r : Result (List ℕ) (List ℕ)) → i < length table → row ≡ get_or table i row → word_from row.0.now text ≡ r
    → word_on bad (drop i (map value_row table)) text ≡ or_else r row.1 (λ rest. word_on (further bad rest) (drop (i + 1) (map value_row table)) text)
unfolding word_on
turn table i row bad text r lt e found = rw (rows_at table i row lt e, found) refl
