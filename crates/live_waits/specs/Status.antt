-- What a domain tells of itself.
use Rattle.std.specs.Prelude.{◌≡◌, ◌≢◌, ℕ, zero, suc, ◌+◌, ◌%◌, ◌==◌, ◌<◌, ◌≤◌, Bool, if◌then◌else◌, List, [], ◌∷◌, ◌++◌, slice_index}
use mathlib.Core.Option.{none}
use Rattle.atomic_table.specs.Table.{Me}
use Rattle.rcu_model.specs.Sets.{In}
use Rattle.reader_word.specs.declared.layout.Layout.TheVariants.{Wide}
use Rattle.gp_memb.specs.Plan.{stands_before}
use Rattle.live_log.specs.declared.event.LiveEvent.{LiveEvent}
use Rattle.live_log.specs.Log.{Log, Begins, IsLiveRun, open_of, present_of, seq_of}
use Rattle.live_words.specs.live_rule.declared.view.Look.{Look}
use Rattle.live_words.specs.live_rule.declared.view.Look.TheVariants.{Loaded}
use Rattle.live_words.specs.live_rule.declared.view.Sizes.{Sizes}
use Rattle.live_words.specs.live_rule.declared.view.View.{View}
use Rattle.live_words.specs.live_rule.Places.{cell_at, finished_at, queued_at, slot_at}
use Rattle.live_waits.specs.declared.counting.Counts.{Counts}

-- what was loaded, by its place, the last one first
abbrev pub Looks : Type 0
Looks = List Look

-- these words were found, the last one first, and no less was seen
abbrev pub HasFound : {S : Type 0} → Looks → Me S View → Me S View → Type 0
HasFound found m m' = (m'.1 ≡ m.1) × (m'.0 ≡ record m.0 { seen = m'.0.seen; looks = found ++ m.0.looks }) × Begins m.0.seen m'.0.seen

-- the headers of this many records were loaded, each once and that of record 0 first; this many of them were in use
abbrev pub AreInUse : Sizes → ℕ → ℕ → Looks → Type 0
AreInUse key zero count found = (count ≡ 0) × (found ≡ [])
AreInUse key (suc i) count found = (header before : ℕ) × (rest : Looks) × (found ≡ Loaded (cell_at key i 0) header ∷ rest) × (count ≡ (if header % 4 == 0 then before else before + 1)) × AreInUse key i before rest

-- the counts of this many queues were loaded, those of queue 0 first, and of each the finished one before the queued
-- one; what waits in a queue is what they differ by
abbrev pub AreWaiting : Sizes → ℕ → List ℕ → Looks → Type 0
AreWaiting key zero waiting found = found ≡ []
AreWaiting key (suc q) waiting found = (queued finished : ℕ) × (rest : Looks) × (found ≡ Loaded (queued_at key q) queued ∷ Loaded (finished_at key q) finished ∷ rest) × (slice_index waiting q + finished ≡ queued) × AreWaiting key q waiting rest

-- nothing waits from this queue on
abbrev pub HasNone : ℕ → List ℕ → Type 0
HasNone queues waiting = (q : ℕ) → queues ≤ q → q < 8 → slice_index waiting q ≡ 0

-- the counts are those of the words that were found
pub record Counted (key : Sizes) (found : Looks) (counts : Counts) : Type 0 where
  pub of_records : Looks
  pub of_queues : Looks
  pub all : found ≡ of_records ++ of_queues
  pub records : AreInUse key key.pool counts.records of_records
  pub waiting : AreWaiting key key.queues counts.waiting of_queues
  pub others : HasNone key.queues counts.waiting

-- the words of this many slots were loaded, each once and that of slot 0 first; a grace period with this phase or
-- number waits for the readers of these, in their order
abbrev pub AreInWay : Bool → ℕ → ℕ → List ℕ → Looks → Type 0
AreInWay qsbr present zero slots found = (slots ≡ []) × (found ≡ [])
AreInWay qsbr present (suc r) slots found = (word : ℕ) × (before : List ℕ) × (rest : Looks) × (found ≡ Loaded (slot_at r) word ∷ rest) × (slots ≡ (if stands_before qsbr Wide present word then before ++ r ∷ [] else before)) × AreInWay qsbr present r before rest

-- each of these slots had an open section in a log between the two
abbrev pub HadOpen : Log → Log → List ℕ → Type 0
HadOpen first last slots = (r : ℕ) → In slots r → (at : Log) × Begins first at × Begins at last × (open_of r at ≢ none)

-- The sequence number was loaded at `start`, after all that had been seen and heard of. Where it was even nothing else
-- was loaded, and nobody stands in the way. Else the phase or number was loaded at `scanned`, and then the words of all
-- slots.
pub record Stalls (qsbr : Bool) (allows : Log → LiveEvent → Type 0) (key : Sizes) (seen heard : Log) (old_loads new_loads : List Log) (old new : Looks) (slots : List ℕ) (log : Log) : Type 0 where
  pub start : Log
  pub found : Looks
  pub load : new_loads ≡ start ∷ old_loads
  pub looks : new ≡ found ++ old
  pub after : Begins seen start × Begins heard start
  pub later : Begins start log
  pub run : IsLiveRun qsbr allows log
  pub resting : seq_of start % 2 ≡ 0 → (slots ≡ []) × (found ≡ [])
  pub running : seq_of start % 2 ≢ 0 → (scanned : Log) × Begins start scanned × Begins scanned log × AreInWay qsbr (present_of scanned) key.slots slots found
  pub had_open : HadOpen start log slots

-- so it was for a seat, by what it knew before and after
abbrev pub StallsBetween : Bool → (Log → LiveEvent → Type 0) → Sizes → View → View → List ℕ → Type 0
StallsBetween qsbr allows key old new slots = Stalls qsbr allows key old.seen old.heard old.loads new.loads old.looks new.looks slots new.seen
