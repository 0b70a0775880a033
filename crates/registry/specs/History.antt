-- The histories of a registry, and what holds of every one.
use Rattle.std.specs.Prelude.{◌≡◌, ◌≢◌, ℕ, ◌<◌, List, [], ◌∷◌, ◌++◌}
use Rattle.std.specs.List.{Contains}
use Rattle.registry.specs.declared.slot.Slot.{Slot}
use Rattle.registry.specs.Registry.{Registry, unclaimed, AllAreClaimed, Claims, GivesBack}

-- a call that was made of a registry, and what it answered
pub data Call : Type 0 where
  Claimed : Slot → Call
  Refused : Call
  GivenBack : Slot → Call

-- the call does this, as its contract has it
abbrev pub Does : Registry → Registry → Call → Type 0
Does old new (Claimed slot) = Claims old new slot
Does old new Refused = AllAreClaimed old × (new ≡ old)
Does old new (GivenBack slot) = GivesBack old new slot

-- the calls lead from the one registry to the other
abbrev pub LeadsTo : Registry → List Call → Registry → Type 0
LeadsTo old [] new = new ≡ old
LeadsTo old (call ∷ calls) new = (next : Registry) × Does old next call × LeadsTo next calls new

-- the slot was claimed, and has not been given back
pub record IsClaimedAfter (calls : List Call) (slot : Slot) : Type 0 where
  pub before : List Call
  pub since : List Call
  pub split : calls ≡ before ++ Claimed slot ∷ since
  pub not_given_back : ¬ Contains since (GivenBack slot)

-- a claim gives a slot of the registry, which none has that was claimed before and not given back; it is refused only
-- where each slot was claimed and not given back
pub record ClaimsOnce (slots : ℕ) (calls : List Call) : Type 0 where
  pub within : (slot : Slot) → Contains calls (Claimed slot) → slot.number < slots
  pub once : (before later : List Call) (slot other : Slot) → calls ≡ before ++ Claimed slot ∷ later → IsClaimedAfter before other → other.number ≢ slot.number
  pub refused : (before later : List Call) (number : ℕ) → calls ≡ before ++ Refused ∷ later → number < slots → (slot : Slot) × (slot.number ≡ number) × IsClaimedAfter before slot

-- the calls were made of a new registry
abbrev pub IsHistory : ℕ → List Call → Type 0
IsHistory slots calls = (end : Registry) × LeadsTo (unclaimed slots) calls end
