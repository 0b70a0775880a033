-- What a step on a group word tells.
use Rattle.std.specs.Prelude.{◌≡◌, ◌≢◌, ℕ, ◌/◌, ◌%◌, ◌<◌, Bool, true, false, bit_and, bit_or}
use mathlib.Core.Option.{none}
use Rattle.atomic_table.specs.Table.{Me, Step}
use Rattle.live_rule.specs.gp_memb.Plan.{bit_of}
use Rattle.live_rule.specs.live_log.declared.event.LiveEvent.{LiveEvent}
use Rattle.live_rule.specs.live_log.Log.{Log, open_of, sections_of}
use Rattle.live_rule.specs.declared.view.View.{View}
use Rattle.live_rule.specs.declared.rights.SlotRight.{SlotRight}
use Rattle.live_rule.specs.declared.rights.SlotRight.TheVariants as slot_right
use Rattle.live_rule.specs.Places.{group_at}
use Rattle.live_rule.specs.Readers.{IsClosed}
use Rattle.live_rule.specs.Rights.{IsOwner, count_in, word_in}
use Rattle.live_rule.specs.Steps.{Went, exchanged_view, looked_view, stored_view}

-- a word with which `or` sets bit b alone, and one with which `and` clears it alone
abbrev pub SetsBit : ℕ → ℕ → Type 0
SetsBit b k = ((n : ℕ) → bit_of (bit_or n k) b ≡ true) × ((n i : ℕ) → i ≢ b → bit_of (bit_or n k) i ≡ bit_of n i)

abbrev pub ClearsBit : ℕ → ℕ → Type 0
ClearsBit b k = ((n : ℕ) → bit_of (bit_and n k) b ≡ false) × ((n i : ℕ) → i < 64 → i ≢ b → bit_of (bit_and n k) i ≡ bit_of n i)

-- two words of the group of slot r differ in the bit of r alone
abbrev pub DiffersAt : ℕ → ℕ → ℕ → Type 0
DiffersAt r old new = (q : ℕ) → q / 64 ≡ r / 64 → q ≢ r → bit_of new (q % 64) ≡ bit_of old (q % 64)

-- the seat has the right to slot r, whose word is closed, and no section is open in it
pub record IsClaimed (qsbr : Bool) (r : ℕ) (v : View) : Type 0 where
  pub owns : IsOwner v r
  pub closed : IsClosed qsbr (word_in v.slot)
  pub none_open : open_of r v.seen ≡ none
  pub counted : sections_of r v.seen ≡ count_in v.slot

-- the view has the right to this slot, whose group was found with this word and left with that one
abbrev pub claimed_view : SlotRight → ℕ → ℕ → ℕ → View → View
claimed_view right r n x v = record (exchanged_view (group_at (r / 64)) n x v) { slot = right }

-- the right to slot r goes, and its group was left with this word
abbrev pub released_view : ℕ → ℕ → View → View
released_view r n v = record (stored_view (group_at (r / 64)) n v) { slot = slot_right.Nothing }

module _ {S : Type 0} (qsbr : Bool) (allows : Log → LiveEvent → Type 0) where
  abbrev pub looked_group : Step S → Me S View → ℕ → Me S View → Type 0
  looked_group st m n m' = Went qsbr allows (looked_view st.word n m.0) m m'

  -- slot r, whose bit was found 0 in this word, is the seat's now: its group was left with its bit set
  pub record TakesSlot (r n : ℕ) (m m' : Me S View) : Type 0 where
    pub left : ℕ
    pub is_set : bit_of left (r % 64) ≡ true
    pub others : DiffersAt r n left
    pub went : Went qsbr allows (claimed_view m'.0.slot r n left m.0) m m'
    pub claimed : IsClaimed qsbr r m'.0

  -- the bit of a slot was set
  abbrev pub claimed : Step S → Me S View → ℕ → Me S View → Type 0
  claimed st m n m' = (r : ℕ) → st.word ≡ group_at (r / 64) → SetsBit (r % 64) st.first
      → (bit_of n (r % 64) ≡ false → TakesSlot r n m m') × (bit_of n (r % 64) ≡ true → Went qsbr allows (looked_view (group_at (r / 64)) n m.0) m m')

  -- Slot r is nobody's now. Its group was found with its bit set, and left with this word, in which it is 0.
  pub record GivesSlot (r : ℕ) (m m' : Me S View) : Type 0 where
    pub found : ℕ
    pub left : ℕ
    pub was_set : bit_of found (r % 64) ≡ true
    pub is_clear : bit_of left (r % 64) ≡ false
    pub others : DiffersAt r found left
    pub counted : sections_of r m'.0.seen ≡ count_in m.0.slot
    pub went : Went qsbr allows (released_view r left m.0) m m'

  -- the bit of the seat's slot was cleared
  abbrev pub released : Step S → Me S View → ℕ → Me S View → Type 0
  released st m n m' = (r w k : ℕ) → m.0.slot ≡ slot_right.Owns r w k → ClearsBit (r % 64) st.first → GivesSlot r m m'
