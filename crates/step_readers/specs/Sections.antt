-- What a step of a reader tells.
use Rattle.std.specs.Prelude.{◌≡◌, ℕ, ◌+◌, ◌-◌, ◌<◌, Bool, true, false, [], ◌∷◌, ◌++◌}
use Rattle.atomic_table.specs.Table.{Me, Step}
use Rattle.reader_word.specs.declared.layout.Layout.TheVariants.{Wide}
use Rattle.reader_word.specs.Word.{number, phase_in}
use Rattle.live_rule.specs.live_log.declared.event.LiveEvent.{LiveEvent}
use Rattle.live_rule.specs.live_log.declared.event.LiveEvent.TheVariants.{Open, Close}
use Rattle.live_rule.specs.live_log.Log.{Log, open_of, sections_of, present_of}
use Rattle.live_rule.specs.declared.view.View.{View}
use Rattle.live_rule.specs.declared.rights.SlotRight.TheVariants.{Owns}
use Rattle.live_rule.specs.Places.{slot_at}
use Rattle.live_rule.specs.Readers.{Fits}
use Rattle.live_rule.specs.Seen.{Looked, Precedes, Wrote, at_log}
use Rattle.live_rule.specs.Rights.{IsOwner, count_in, word_in}
use Rattle.live_rule.specs.Steps.{Went, looked_view}

-- the phase or number that an open word copied
abbrev pub copied : Bool → ℕ → ℕ
copied false w = number (phase_in Wide w)
copied true w = w - 1

-- how many sections these events open
abbrev pub opened_in : Log → ℕ
opened_in [] = 0
opened_in (Open r n m ∷ es) = opened_in es + 1
opened_in (_ ∷ es) = opened_in es

-- the word fits the open section of the slot in the log, and the slot has had this many sections
abbrev pub IsAt : Bool → ℕ → ℕ → ℕ → Log → Type 0
IsAt qsbr r w k log = Fits qsbr w (open_of r log) × (sections_of r log ≡ k)

-- what the four kinds of store write: by the slot, how many sections it has had, and the word that is stored
module _ (qsbr : Bool) where
  abbrev pub opens : ℕ → ℕ → ℕ → Log
  opens r k x = Open r (k + 1) (copied qsbr x) ∷ []

  abbrev pub nests : ℕ → ℕ → ℕ → Log
  nests r k x = []

  abbrev pub closes : ℕ → ℕ → ℕ → Log
  closes r k x = Close r k ∷ []

  -- the section closes before the next one opens
  abbrev pub announces : ℕ → ℕ → ℕ → Log
  announces r k x = Open r (k + 1) (copied qsbr x) ∷ Close r k ∷ []

module _ {S : Type 0} (qsbr : Bool) (allows : Log → LiveEvent → Type 0) where
  -- the phase or number was loaded
  abbrev pub looked_present : Step S → Me S View → ℕ → Me S View → Type 0
  looked_present st m n m' = Looked qsbr allows m m' × (present_of m'.0.seen ≡ n)

  -- the word of a slot was loaded, which is that of the slot's open section, if it has one; the slot's owner knew it
  abbrev pub looked_slot : Step S → Me S View → ℕ → Me S View → Type 0
  looked_slot st m n m' = Went qsbr allows (looked_view st.word n m.0) m m' × ((r : ℕ) → r < m.0.sizes.slots → st.word ≡ slot_at r → Fits qsbr n (open_of r m'.0.seen)) × ((r : ℕ) → st.word ≡ slot_at r → IsOwner m.0 r → (n ≡ word_in m.0.slot) × (sections_of r m'.0.seen ≡ count_in m.0.slot))

  -- the word of slot r was stored, these events were written, and the slot has had this many sections
  abbrev pub Stored : ℕ → ℕ → ℕ → Log → Me S View → Me S View → Type 0
  Stored r x count events m m' = (m' ≡ (record (at_log m.0 m'.0.seen) { slot = Owns r x count }, m.1)) × Wrote qsbr allows m.0 events m'.0.seen × IsAt qsbr r x count m'.0.seen

  -- the same of whatever slot the seat owns
  abbrev pub stored : (ℕ → ℕ → ℕ → Log) → Step S → Me S View → ℕ → Me S View → Type 0
  stored events st m n m' = (r w k : ℕ) → m.0.slot ≡ Owns r w k → Stored r st.first (k + opened_in (events r k st.first)) (events r k st.first) m m'

module _ {S : Type 0} (qsbr : Bool) (allows : Log → LiveEvent → Type 0) (slot word : ℕ) (old new : Me S View) where
  -- a section was opened, which copied what the word has
  abbrev pub Opened : Type 0
  Opened = Stored qsbr allows slot word (count_in old.0.slot + 1) (opens qsbr slot (count_in old.0.slot) word) old new

  -- a lock was opened or closed within the section, which writes nothing
  abbrev pub Nested : Type 0
  Nested = Stored qsbr allows slot word (count_in old.0.slot + 0) [] old new

  -- the section was closed
  abbrev pub Closed : Type 0
  Closed = Stored qsbr allows slot word (count_in old.0.slot + 0) (closes qsbr slot (count_in old.0.slot) word) old new

  -- the section was closed, and then the next one opened
  abbrev pub Announced : Type 0
  Announced = Stored qsbr allows slot word (count_in old.0.slot + 1) (announces qsbr slot (count_in old.0.slot) word) old new

  -- what the word copied was the present phase or number at a moment before these events, after all that the seat had
  -- seen and heard
  abbrev pub CopiedBefore : Log → Type 0
  CopiedBefore events = (loaded since : Log) × Precedes old.0 loaded × (new.0.seen ≡ events ++ (since ++ loaded)) × (present_of loaded ≡ copied qsbr word)

  -- the same of a section that was opened
  abbrev pub CopiedBeforeOpen : Type 0
  CopiedBeforeOpen = CopiedBefore (opens qsbr slot (count_in old.0.slot) word)

  -- and of an announcement
  abbrev pub CopiedBeforeAnnounce : Type 0
  CopiedBeforeAnnounce = CopiedBefore (announces qsbr slot (count_in old.0.slot) word)
