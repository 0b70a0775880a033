-- One scan of the slots: of all of them, or of those whose bit in a group word was set.
use Rattle.std.specs.Prelude.{ℕ, ◌+◌, ◌-◌, ◌*◌, ◌/◌, ◌==◌, nat_lt, Bool, true, false, if◌then◌else◌, Option, Some, None}
use Rattle.gp_memb.specs.declared.plan.Action.{Action}
use Rattle.gp_memb.specs.declared.plan.Action.TheVariants.{Load, LoadGroup}
use Rattle.gp_memb.specs.declared.scan.Scan.{Scan}
use Rattle.gp_memb.specs.declared.scan.Look.{Look}
use Rattle.gp_memb.specs.declared.scan.Look.TheVariants.{Group, Slot}
use Rattle.gp_memb.specs.Groups.{groups_of, group_end, first_claimed}

abbrev pub scan_of : ℕ → Bool → Scan
scan_of slots grouped = record { slots = slots; grouped = grouped }

abbrev pub is_slot_of : Look → Bool
is_slot_of (Group group) = false
is_slot_of (Slot slot bits) = true

abbrev pub look_action : Look → Action
look_action (Group group) = LoadGroup group
look_action (Slot slot bits) = Load slot

-- how many group words a grouped scan loads, or how many slots another one
abbrev pub length_of : Scan → ℕ
length_of scan = if scan.grouped then groups_of scan.slots else scan.slots

-- what is loaded first
abbrev pub first_look : Scan → Option Look
first_look scan = if scan.slots == 0 then None else (if scan.grouped then Some (Group 0) else Some (Slot 0 0))

-- the claimed slot that was found in a group, or else the next group
abbrev pub found_in : ℕ → ℕ → ℕ → Option ℕ → Option Look
found_in slots group bits None = if nat_lt (64 * group + 64) slots then Some (Group (group + 1)) else None
found_in slots group bits (Some slot) = Some (Slot slot bits)

-- the same, of the slots of the group from this one on
abbrev pub in_group : ℕ → ℕ → ℕ → ℕ → Option Look
in_group slots group bits from = found_in slots group bits (first_claimed bits from (group_end slots group - from))

abbrev pub next_slot_of : ℕ → ℕ → Option Look
next_slot_of slots slot = if nat_lt (slot + 1) slots then Some (Slot (slot + 1) 0) else None

-- what is loaded behind a look, once its word was loaded
abbrev pub look_behind : Scan → Look → ℕ → Option Look
look_behind scan (Group group) word = in_group scan.slots group word (64 * group)
look_behind scan (Slot slot bits) word = if scan.grouped then in_group scan.slots (slot / 64) bits (slot + 1) else next_slot_of scan.slots slot

-- where a plan goes on to in a scan, or behind it
abbrev pub scans_on : {Place : Type 0} → (Look → Place) → Place → Option Look → Place
scans_on scan last None = last
scans_on scan last (Some look) = scan look
