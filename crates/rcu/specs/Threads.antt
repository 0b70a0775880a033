-- What programs and their threads answer.
use Rattle.std.specs.Prelude.{true, ℕ, ◌<◌, ◌≡◌, ◌⊎◌, List, slice_index_or}
use Rattle.rcu_model.specs.declared.refusal.Refusal.{Refusal}
use Rattle.rcu_model.specs.declared.refusal.Refusal.TheVariants.{Busy, NoSlot}
use Rattle.rcu_hash.specs.domain.Config.{is_supported, new_refusal}
use Rattle.rcu_hash.specs.domain.declared.config.LiveConfig.{LiveConfig}
use Rattle.rcu_hash.specs.live_read.Registering.{FindsAllClaimed, LeavesFree}
use Rattle.rcu_hash.specs.live_rule.declared.view.Sizes.{Sizes}
use Rattle.rcu_hash.specs.live_rule.declared.view.Look.{Look}

-- the sizes of a domain that is made by this config
abbrev pub sizes_of : LiveConfig → Sizes
sizes_of c = record { slots = c.slots; chains = c.chains; queues = c.queues; pool = c.pool }

-- a size is out of its limits; or else memory was refused, or what comes before the threads was
abbrev pub IsNotBegun : LiveConfig → (Refusal → Type 0) → Refusal → Type 0
IsNotBegun config stops e = (e ≡ new_refusal config) ⊎ ((is_supported config ≡ true) × stops e)

-- each of the first n elements is what may be answered at its place
abbrev pub EachGives : {X : Type 0} → (ℕ → X → Type 0) → ℕ → List X → Type 0
EachGives gives n xs = (i : ℕ) (d : _) → i < n → gives i (slice_index_or xs i d)

-- the word that was stored last clears the bit of a slot
abbrev pub GivesBackASlot : Sizes → List Look → Type 0
GivesBackASlot key looks = (slot : ℕ) × (slot < key.slots) × ((before : List Look) × LeavesFree slot before looks)

-- a reading may end with something open
abbrev pub MayLeaveOpen : {Out : Type 0} → (Out → ℕ → Type 0) → Type 0
MayLeaveOpen gives = (x : _) × (depth : ℕ) × (0 < depth) × gives x depth

-- nothing is answered, since no slot was left, or since the reading left something open
abbrev pub IsNotRead : {Out : Type 0} → (Out → ℕ → Type 0) → Refusal → Sizes → List Look → List Look → Type 0
IsNotRead gives e key old new = ((e ≡ NoSlot) × FindsAllClaimed key old new) ⊎ ((e ≡ Busy) × MayLeaveOpen gives)
