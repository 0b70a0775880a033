-- Who came, in order, and who has left since: a place for each, and whether its holder is still there.
use Rattle.std.specs.Prelude.{◌≡◌, ◌≢◌, ◌<◌, ◌≤◌, ◌↔◌, ◌==◌, ◌&&◌, ◌+◌, [], ◌∷◌, ℕ, Bool, false, List, length, map, slice_index_or, Option, Some, None, IsTrue}
use Rattle.std.specs.List.{list_any, range_with_len}
use Rattle.rcu_judge.specs.declared.roster.Kept.{Kept}

-- the one at the place came, and has not left
abbrev pub IsThere : List Bool → ℕ → Type 0
IsThere present place = IsTrue (slice_index_or present place false)

-- all that came before the moment have left
abbrev pub HaveLeft : List Bool → ℕ → Type 0
HaveLeft present moment = (place : ℕ) → place < moment → ¬ IsThere present place

-- the one that is kept at an index
abbrev pub kept_at : List Kept → ℕ → Kept
kept_at kept at = slice_index_or kept at (record { place = 0; is_there = false })

-- they are kept in the order of their places, which are from one up to before another
abbrev pub AreInOrder : ℕ → ℕ → List Kept → Type 0
AreInOrder from to [] = from ≤ to
AreInOrder from to (k ∷ ks) = (from ≤ k.place) × AreInOrder (k.place + 1) to ks

-- the one at the place is kept at the index, or nowhere
abbrev pub IsFoundAt : List Kept → ℕ → Option ℕ → Type 0
IsFoundAt kept place None = (at : ℕ) → at < length kept → (kept_at kept at).place ≢ place
IsFoundAt kept place (Some at) = (at < length kept) × ((kept_at kept at).place ≡ place)

-- the first from here on that is there, or the end
pub record IsNext (kept : List Kept) (from next : ℕ) : Type 0 where
  pub on : from ≤ next
  pub within : next ≤ length kept
  pub passed : (at : ℕ) → from ≤ at → at < next → ¬ IsTrue (kept_at kept at).is_there
  pub there : next < length kept → IsTrue (kept_at kept next).is_there

-- whether the one at the place is kept and is there
abbrev pub is_kept : List Kept → ℕ → Bool
is_kept kept place = list_any (λ k. (k.place == place) && k.is_there) kept

-- the places of all that came
abbrev pub all_places : ℕ → List Kept → List Bool
all_places came kept = map (is_kept kept) (range_with_len 0 came)

-- what is kept of those that came
pub record IsKept (came : ℕ) (kept : List Kept) (oldest : ℕ) : Type 0 where
  pub order : AreInOrder 0 came kept
  pub front : IsNext kept 0 oldest

-- those that came and those of them that are here, by their places
pub record Rostered {X : Type 0} (Came Here : X → Type 0) (place : X → ℕ) (present : List Bool) : Type 0 where
  pub placed : (x : X) → Came x → place x < length present
  pub apart : (x y : X) → Came x → Came y → place x ≡ place y → x ≡ y
  pub named : (i : ℕ) → IsThere present i → (x : X) × (Here x × (place x ≡ i))
  pub marked : (x : X) → Came x → Here x ↔ IsThere present (place x)
  pub came : (x : X) → Here x → Came x

-- the awaited ones are those here that came before the moment, and this many came by now
pub record Awaits {X : Type 0} (Here Awaited : X → Type 0) (place : X → ℕ) (came moment : ℕ) : Type 0 where
  pub past : moment ≤ came
  pub exact : (x : X) → Awaited x ↔ (Here x × (place x < moment))
