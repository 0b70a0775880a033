-- How a registry is kept: the claims, each with the number of its slot, and the numbers of the free slots.
use Rattle.std.specs.Prelude.{◌≡◌, ◌⊎◌, ◌↔◌, ℕ, ◌+◌, ◌<◌, ◌≤◌, List, [], ◌∷◌, length, map, Some}
use Rattle.std.specs.List.{Contains}
use Rattle.slab.specs.Slab.{Slab, get, slab_len, entries}
use Rattle.registry.specs.declared.slot.Slot.{Slot}

-- a claim, by its key, of the slot of this number
abbrev pub slot_of : ℕ × ℕ → Slot
slot_of entry = record { claim = entry.0; number = entry.1 }

-- the slots of the claims
abbrev pub slots_of : Slab ℕ → List Slot
slots_of claims = map slot_of (entries claims)

-- no number is there twice
abbrev pub AreOnce : List ℕ → Type 0
AreOnce [] = Unit {0}
AreOnce (n ∷ ns) = (¬ Contains ns n) × AreOnce ns

-- these are the numbers below the end, each once
pub record AreNumbersBelow (end : ℕ) (numbers : List ℕ) : Type 0 where
  pub counted : length numbers ≡ end
  pub once : AreOnce numbers
  pub all : (n : ℕ) → Contains numbers n ↔ (n < end)

-- each number of a slot is free, or has one claim
pub record IsKept (slots : ℕ) (claims : Slab ℕ) (free : List ℕ) : Type 0 where
  pub counted : slab_len claims + length free ≡ slots
  pub room : slots ≤ claims.capacity
  pub free_once : AreOnce free
  pub free_within : (n : ℕ) → Contains free n → n < slots
  pub claimed_within : (key n : ℕ) → get claims key ≡ Some n → n < slots
  pub claimed_once : (a b n : ℕ) → get claims a ≡ Some n → get claims b ≡ Some n → a ≡ b
  pub claimed_not_free : (key n : ℕ) → get claims key ≡ Some n → ¬ Contains free n
  pub each : (n : ℕ) → n < slots → Contains free n ⊎ ((key : ℕ) × (get claims key ≡ Some n))
