-- What a grace period waits for, and what it stores.
use Rattle.std.specs.Prelude.{◌≡◌, ◌≢◌, ◌↔◌, ◌≤◌, ◌<◌, ℕ, ◌+◌, ◌*◌, ◌/◌, ◌%◌, ◌^◌, ◌==◌, Bool, true, false, if◌then◌else◌, List, [], ◌∷◌}
use Rattle.reader_word.specs.declared.layout.Layout.{Layout}
use Rattle.reader_word.specs.Word.{count_of, phase_in, stands}
use Rattle.reader_word.specs.Quiescent.{announced, qs_stands}
use Rattle.gp_memb.specs.declared.plan.Action.{Action}
use Rattle.gp_memb.specs.declared.plan.Action.TheVariants.{Load, LoadGroup, StorePhase, StoreSeq, Finished}
use Rattle.gp_memb.specs.declared.plan.Turn.{Turn}
use Rattle.gp_memb.specs.declared.plan.Turn.TheVariants.{Step, Wait}

-- the word of a slot in which a section is open that copied this phase (1 or 0), or in the quiescent-state flavour this
-- number
abbrev pub Shows : Bool → Layout → ℕ → ℕ → Type 0
Shows false layout mark word = (count_of layout word ≢ 0) × (phase_in layout word ≡ (mark == 1))
Shows true layout mark word = word ≡ announced mark

-- the plan after turns with these loaded words
abbrev pub after_loads : {P : Type 0} → (P → ℕ → P) → P → List ℕ → P
after_loads taken plan [] = plan
after_loads taken plan (word ∷ words) = after_loads taken (taken plan word) words

-- whether bit i of a word is set
abbrev pub bit_of : ℕ → ℕ → Bool
bit_of word i = ((word / 2 ^ i) % 2) == 1

-- what a turn loads while a section with this mark stays open in the slot: of the slot such a word, and of its group a
-- word in which its bit is set
abbrev pub ShowsOpen : Bool → Layout → ℕ → ℕ → Action → ℕ → Type 0
ShowsOpen qsbr layout slot mark (Load k) word = k ≡ slot → Shows qsbr layout mark word
ShowsOpen qsbr layout slot mark (LoadGroup g) word = g ≡ slot / 64 → bit_of word (slot % 64) ≡ true
ShowsOpen qsbr layout slot mark (StorePhase value) word = Unit {0}
ShowsOpen qsbr layout slot mark (StoreSeq value) word = Unit {0}
ShowsOpen qsbr layout slot mark Finished word = Unit {0}

-- each of these turns loads such a word
abbrev pub EachLoadShows : {P : Type 0} → (P → Action) → (P → ℕ → P) → (Action → ℕ → Type 0) → P → List ℕ → Type 0
EachLoadShows action taken shows plan [] = Unit {0}
EachLoadShows action taken shows plan (word ∷ words) = shows (action plan) word × EachLoadShows action taken shows (taken plan word) words

-- what holds from the first store of a sequence number on
abbrev pub from_seq : Action → Type 0 → Type 0 → Type 0
from_seq (StoreSeq value) now later = now
from_seq (Load slot) now later = later
from_seq (LoadGroup group) now later = later
from_seq (StorePhase value) now later = later
from_seq Finished now later = later

-- each turn after the first store of a sequence number loads such a word; of what was loaded before nothing is known
abbrev pub EachLoadShowsSince : {P : Type 0} → (P → Action) → (P → ℕ → P) → (Action → ℕ → Type 0) → P → List ℕ → Type 0
EachLoadShowsSince action taken shows plan [] = Unit {0}
EachLoadShowsSince action taken shows plan (word ∷ words) = from_seq (action plan) (EachLoadShows action taken shows (taken plan word) words) (EachLoadShowsSince action taken shows (taken plan word) words)

-- the grace-period law: whatever is loaded, while a section that was open at the first store of a sequence number stays
-- open, with one mark (in the quiescent-state flavour no number above the one that the plan was made with), the plan is
-- not finished
abbrev pub WaitsForOpen : {P : Type 0} → Bool → (P → Action) → (P → ℕ → P) → Layout → ℕ → ℕ → P → Type 0
WaitsForOpen qsbr action taken layout slots word plan =
    (slot mark : ℕ) (loads : List ℕ) → slot < slots → (qsbr ≡ true → mark ≤ word) →
    EachLoadShowsSince action taken (ShowsOpen qsbr layout slot mark) plan loads → action (after_loads taken plan loads) ≢ Finished

-- which turns of a plan store a sequence number, and when it is finished
pub record StoresInOrder {P : Type 0} (action : P → Action) (taken : P → ℕ → P) (seq : ℕ) (plan : P) : Type 0 where
  pub first : action plan ≡ StoreSeq (seq + 1)
  pub second : (word value : ℕ) (words : List ℕ) → action (after_loads taken plan (word ∷ words)) ≡ StoreSeq value → value ≡ seq + 2
  pub last : (words : List ℕ) (word : ℕ) → action (after_loads taken plan words) ≢ Finished →
      (action (taken (after_loads taken plan words) word) ≡ Finished) ↔ (action (after_loads taken plan words) ≡ StoreSeq (seq + 2))

-- what may be the present phase, or the present number
abbrev pub IsPresent : Bool → ℕ → Type 0
IsPresent false word = word ≤ 1
IsPresent true word = Unit {0}

-- what a plan may store that was made with this phase or number: a phase, or the next number
abbrev pub MayStore : Bool → ℕ → ℕ → Type 0
MayStore false word value = value ≤ 1
MayStore true word value = value ≡ word + 1

-- a scan has to wait for this word, at the present phase (1 or 0) or number
abbrev pub stands_before : Bool → Layout → ℕ → ℕ → Bool
stands_before false layout present word = stands layout word (present == 1)
stands_before true layout present word = qs_stands word present

-- what a turn answers to a loaded word
abbrev pub turn_at : Bool → Layout → ℕ → Action → ℕ → Turn
turn_at qsbr layout present (Load slot) word = if stands_before qsbr layout present word then Wait else Step
turn_at qsbr layout present (LoadGroup group) word = Step
turn_at qsbr layout present (StorePhase value) word = Step
turn_at qsbr layout present (StoreSeq value) word = Step
turn_at qsbr layout present Finished word = Step

-- the phase or number that was stored last, after an action
abbrev pub present_after : ℕ → Action → ℕ
present_after present (Load slot) = present
present_after present (LoadGroup group) = present
present_after present (StorePhase value) = value
present_after present (StoreSeq value) = present
present_after present Finished = present

-- which turns a count of steps takes in: each, or each but the loads of slots
abbrev pub each_turn : Action → Bool
each_turn action = true

abbrev pub but_slots : Action → Bool
but_slots (Load slot) = false
but_slots (LoadGroup group) = true
but_slots (StorePhase value) = true
but_slots (StoreSeq value) = true
but_slots Finished = true

-- how many of the turns with these loaded words went on, of those that count
abbrev pub went_on : Turn → ℕ
went_on Step = 1
went_on Wait = 0

abbrev pub steps : {P : Type 0} → (P → Action) → (P → ℕ → Turn) → (P → ℕ → P) → (Action → Bool) → P → List ℕ → ℕ
steps action turn taken counts plan [] = 0
steps action turn taken counts plan (word ∷ words) =
    (if counts (action plan) then went_on (turn plan word) else 0) + steps action turn taken counts (taken plan word) words

-- the plan is finished exactly once this many of its turns went on, of those that count
abbrev pub FinishesAfter : {P : Type 0} → (P → Action) → (P → ℕ → Turn) → (P → ℕ → P) → (Action → Bool) → P → ℕ → Type 0
FinishesAfter action turn taken counts plan count =
    (words : List ℕ) → (action (after_loads taken plan words) ≡ Finished) ↔ (count ≤ steps action turn taken counts plan words)

-- the turns of a grace period that go on, each of whose scans takes this many
abbrev pub turn_count : Bool → ℕ → ℕ
turn_count false scan = 2 * scan + 4
turn_count true scan = scan + 3

-- the plan after a turn: moved on, or as it was where the turn waits
abbrev pub after_turn : {P : Type 0} → P → P → Turn → P
after_turn moved plan Step = moved
after_turn moved plan Wait = plan
