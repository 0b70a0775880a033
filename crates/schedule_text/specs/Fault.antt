-- Where a text that is not in a language goes wrong.
use Rattle.std.specs.Prelude.{◌≡◌, ℕ, ◌+◌, ◌-◌, ◌<◌, ◌≤◌, ◌^◌, min, List, ◌++◌, length, take}

-- some text of the language begins so
abbrev pub Begins : (List ℕ → Type 0) → List ℕ → Type 0
Begins IsText front = (rest : List ℕ) × IsText (front ++ rest)

-- One more than the length of the longest beginning with which some text of the language begins.
pub record IsColumn (IsText : List ℕ → Type 0) (text : List ℕ) (column : ℕ) : Type 0 where
  pub good : ℕ
  pub after : column ≡ good + 1
  pub within : good ≤ length text
  pub begins : Begins IsText (take good text)
  pub ends : column ≤ length text → Begins IsText (take column text) → ⊥

-- no text of the language stands at the front, and the column is that of the first byte with which none goes on
pub record IsBad (IsText : List ℕ → Type 0) (text : List ℕ) (column : ℕ) : Type 0 where
  pub none : (front more : List ℕ) → IsText front → text ≡ front ++ more → ⊥
  pub place : IsColumn IsText text column

-- less than a whole text of the language: some text begins so, and goes on
abbrev pub IsPartial : (List ℕ → Type 0) → List ℕ → Type 0
IsPartial IsText front = (more : List ℕ) × (0 < length more) × IsText (front ++ more)

-- The header is line 1. A line from 2^64 - 1 on goes by that number.
abbrev pub line_after : ℕ → ℕ
line_after lines = min (lines + 2) (2 ^ 64 - 1)
