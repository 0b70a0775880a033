-- Numbers, as runs of consecutive ones: the first number of each run and its last.
use Rattle.std.specs.Prelude.{◌≡◌, ◌≤◌, ◌<◌, ◌+◌, ◌^◌, ◌==◌, ◌∷◌, ◌⊎◌, ◌↔◌, [], if◌then◌else◌, ℕ, List, Option, Some, None}
use Rattle.std.specs.Ordering.{nat_cmp}
use Rattle.std.specs.Map.{lookup}
use Rattle.std.specs.BTreeMap.{is_at}

-- the last number of the run that begins at a number, where one does
abbrev pub last_from : List (ℕ × ℕ) → ℕ → Option ℕ
last_from runs first = lookup (is_at (nat_cmp first)) runs

-- there is a run from the first number to the last
abbrev pub IsRun : List (ℕ × ℕ) → ℕ → ℕ → Type 0
IsRun runs first last = last_from runs first ≡ Some last

-- the number is in a run
pub record Has (runs : List (ℕ × ℕ)) (number : ℕ) : Type 0 where
  pub first : ℕ
  pub last : ℕ
  pub run : IsRun runs first last
  pub begun : first ≤ number
  pub not_past : number ≤ last

-- each run has a number, and between any two runs a number is missing
pub record AreRuns (runs : List (ℕ × ℕ)) : Type 0 where
  pub fits : (first last : ℕ) → IsRun runs first last → first < 2 ^ 64
  pub full : (first last : ℕ) → IsRun runs first last → first ≤ last
  pub apart : (first last next_first next_last : ℕ) → IsRun runs first last → IsRun runs next_first next_last → first < next_first → last + 1 < next_first

-- all runs: that of the greatest numbers, and the others
abbrev pub all_runs : Option (ℕ × ℕ) → List (ℕ × ℕ) → List (ℕ × ℕ)
all_runs None lower = lower
all_runs (Some greatest) lower = greatest ∷ lower

-- the other runs begin below that of the greatest numbers, and there are none without it
abbrev pub AreBelow : Option (ℕ × ℕ) → List (ℕ × ℕ) → Type 0
AreBelow None lower = lower ≡ []
AreBelow (Some greatest) lower = (first last : ℕ) → IsRun lower first last → first < greatest.0

-- a number was put
pub record Inserts (runs new : List (ℕ × ℕ)) (number : ℕ) : Type 0 where
  pub are : AreRuns new
  pub has : (n : ℕ) → Has new n ↔ ((number ≡ n) ⊎ Has runs n)

-- a number that was not there was put, and this is the run of the greatest numbers then
pub record Joins (greatest : ℕ × ℕ) (lower : List (ℕ × ℕ)) (run : ℕ × ℕ) (new : List (ℕ × ℕ)) (number : ℕ) : Type 0 where
  pub fresh : ¬ Has (greatest ∷ lower) number
  pub inserts : Inserts (greatest ∷ lower) (run ∷ new) number
  pub below : AreBelow (Some run) new

-- the same, where it was not there; or nothing has changed
abbrev pub JoinsUnlessThere : (ℕ × ℕ) → List (ℕ × ℕ) → List (ℕ × ℕ) → ℕ → Option (ℕ × ℕ) → Type 0
JoinsUnlessThere greatest lower new number None = Has (greatest ∷ lower) number × (new ≡ lower)
JoinsUnlessThere greatest lower new number (Some run) = Joins greatest lower run new number

-- the last run that begins at the number or before it
abbrev pub FindsRunBefore : List (ℕ × ℕ) → ℕ → Option (ℕ × ℕ) → Type 0
FindsRunBefore runs number None = (first last : ℕ) → IsRun runs first last → number < first
FindsRunBefore runs number (Some run) = IsRun runs run.0 run.1 × (run.0 ≤ number) × ((first last : ℕ) → IsRun runs first last → first ≤ number → first ≤ run.0)

-- the run reaches the number, where there is one
abbrev pub Reaches : Option (ℕ × ℕ) → ℕ → Type 0
Reaches None number = ⊥
Reaches (Some run) number = number ≤ run.1

-- where the run begins that has the number, once it joins the run before it, if that one ends just below
abbrev pub begins_at : Option (ℕ × ℕ) → ℕ → ℕ
begins_at None number = number
begins_at (Some run) number = if run.1 + 1 == number then run.0 else number
