-- Groups of 64 slots, each with a word in which the bit of a claimed slot is set.
use Rattle.std.specs.Prelude.{ℕ, zero, suc, ◌+◌, ◌*◌, ◌/◌, ◌%◌, min, if◌then◌else◌, Option, Some, None}
use Rattle.gp_memb.specs.Plan.{bit_of}

-- how many groups this many slots have
abbrev pub groups_of : ℕ → ℕ
groups_of slots = (slots + 63) / 64

-- behind the last slot of a group
abbrev pub group_end : ℕ → ℕ → ℕ
group_end slots group = min (64 * group + 64) slots

-- the first slot from this one on, of this many, whose bit is set
abbrev pub first_claimed : ℕ → ℕ → ℕ → Option ℕ
first_claimed bits from zero = None
first_claimed bits from (suc count) = if bit_of bits (from % 64) then Some from else first_claimed bits (from + 1) count
