-- What stands first in held bytes and the text after them.
use Rattle.std.specs.Prelude.{◌≡◌, ℕ, ◌+◌, ◌<◌, ◌≤◌, List, [], ◌∷◌, ◌++◌, length, Option, None, Some, Result, Ok, Err}
use Rattle.std.specs.Borrow.{Bor}
use Rattle.schedule_text.specs.Reading.{Reading}

-- It is read whole, and what follows is left; or all is held, and may go on; or a byte is bad, in this column.
abbrev pub Next : {A : Type 0} → (List ℕ → Reading A) → List ℕ → List ℕ → List ℕ → Result (Option (A × Bor (List ℕ))) ℕ → Type 0
Next read old text new (Ok (Some x)) = (read (old ++ text) ≡ Ok (x.0, x.1.now)) × (new ≡ [])
Next read old text new (Ok None) = (read (old ++ text) ≡ Err []) × (new ≡ old ++ text)
Next read old text new (Err column) = (b : ℕ) × (more : List ℕ) × (read (old ++ text) ≡ Err (b ∷ more)) × (column + length (b ∷ more) ≡ length (old ++ text) + 1)

-- Reading in pieces comes to the same: what is read stays read when more text comes, and a bad byte stays bad. Where a
-- text may go on, it is short, and one byte more completes at most what ends with it. What is read takes some bytes,
-- and what is left from a bad byte on is no longer than the text.
pub record IsIncremental {A : Type 0} (read : List ℕ → Reading A) : Type 0 where
  pub found : (text more : List ℕ) (x : A) (rest : List ℕ) → read text ≡ Ok (x, rest) → read (text ++ more) ≡ Ok (x, rest ++ more)
  pub bad : (text : List ℕ) (b : ℕ) (bs more : List ℕ) → read text ≡ Err (b ∷ bs) → read (text ++ more) ≡ Err (b ∷ (bs ++ more))
  pub last : (text : List ℕ) (b : ℕ) (x : A) (rest : List ℕ) → read text ≡ Err [] → read (text ++ b ∷ []) ≡ Ok (x, rest) → rest ≡ []
  pub shrinks : (text : List ℕ) (x : A) (rest : List ℕ) → read text ≡ Ok (x, rest) → length rest < length text
  pub within : (text bad : List ℕ) → read text ≡ Err bad → length bad ≤ length text
  pub short : (text : List ℕ) → read text ≡ Err [] → length text < 56
