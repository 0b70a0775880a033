-- What a contract sees of a registry: its slots, and which are claimed.
use Rattle.std.specs.Prelude.{◌≡◌, ◌≢◌, ◌↔◌, ℕ, ◌<◌, ◌≤◌, ◌&&◌, nat_le, if◌then◌else◌, List, []}
use Rattle.std.specs.List.{Contains}
use Rattle.rcu_model.specs.declared.refusal.Refusal.{Refusal}
use Rattle.rcu_model.specs.declared.refusal.Refusal.TheVariants.{BadConfig, Memory}
use Rattle.registry.specs.declared.slot.Slot.{Slot}

pub record Registry : Type 0 where
  pub slots : ℕ  -- how many there are
  pub claimed : List Slot  -- those that were claimed and not given back

-- a registry may have this many slots
abbrev pub IsSupported : ℕ → Type 0
IsSupported slots = (1 ≤ slots) × (slots ≤ 256)

abbrev pub new_refusal : ℕ → Refusal
new_refusal slots = if nat_le 1 slots && nat_le slots 256 then Memory else BadConfig

-- no slot is claimed
abbrev pub unclaimed : ℕ → Registry
unclaimed slots = record { slots = slots; claimed = [] }

abbrev pub IsClaimed : Registry → Slot → Type 0
IsClaimed r slot = Contains r.claimed slot

-- no claimed slot has the number
abbrev pub IsFree : Registry → ℕ → Type 0
IsFree r number = (slot : Slot) → IsClaimed r slot → slot.number ≢ number

abbrev pub AllAreClaimed : Registry → Type 0
AllAreClaimed r = (number : ℕ) → number < r.slots → (slot : Slot) × (slot.number ≡ number) × IsClaimed r slot

-- the slot was free, and is claimed now; the others are as they were
pub record Claims (old new : Registry) (slot : Slot) : Type 0 where
  pub within : slot.number < old.slots
  pub was_free : IsFree old slot.number
  pub claimed : IsClaimed new slot
  pub others : (other : Slot) → other ≢ slot → IsClaimed new other ↔ IsClaimed old other
  pub same_slots : new.slots ≡ old.slots

-- the slot was claimed, and is claimed no more; the others are as they were
pub record GivesBack (old new : Registry) (slot : Slot) : Type 0 where
  pub was_claimed : IsClaimed old slot
  pub not_claimed : ¬ IsClaimed new slot
  pub others : (other : Slot) → other ≢ slot → IsClaimed new other ↔ IsClaimed old other
  pub same_slots : new.slots ≡ old.slots
