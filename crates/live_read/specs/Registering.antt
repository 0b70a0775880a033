-- What claiming a slot, and giving it back, tells.
use Rattle.std.specs.Prelude.{◌≡◌, ℕ, ◌/◌, ◌%◌, ◌<◌, Bool, true, false, List, [], ◌∷◌, ◌++◌}
use Rattle.atomic_table.specs.Table.{Me}
use Rattle.atomic_table.specs.declared.shared.Seat.{Seat}
use Rattle.gp_memb.specs.declared.plan.GracePlan as plan
use Rattle.gp_memb.specs.Plan.{bit_of}
use Rattle.rcu_model.specs.Sets.{In}
use Rattle.live_log.specs.declared.event.LiveEvent.{LiveEvent}
use Rattle.live_log.specs.declared.event.LiveEvent.TheVariants.{Close}
use Rattle.live_log.specs.Log.{Log, Begins, Has, IsLiveRun, sections_of}
use Rattle.live_words.specs.live_rule.declared.view.Sizes.{Sizes}
use Rattle.live_words.specs.live_rule.declared.view.Look.{Look}
use Rattle.live_words.specs.live_rule.declared.view.Look.TheVariants.{Loaded, Stored}
use Rattle.live_log.specs.declared.callback_id.CallbackId.{CallbackId}
use Rattle.live_words.specs.live_rule.declared.view.View.{View}
use Rattle.live_words.specs.live_rule.declared.rights.SlotRight.{SlotRight}
use Rattle.live_words.specs.live_rule.Places.{group_at}
use Rattle.live_words.specs.live_rule.Readers.{IsClosed}
use Rattle.live_words.specs.live_rule.Rights.{count_in}
use Rattle.live_words.specs.live_rule.Steps.{FoundIn, Went, stores_in}
use Rattle.live_words.specs.step_readers.Groups.{DiffersAt, IsClaimed}
use Rattle.live_read.specs.declared.reader_core.ReaderCore.{ReaderCore}

-- the bit of slot r was found set in its group word
abbrev pub WasClaimed : ℕ → List Look → Type 0
WasClaimed r found = FoundIn found (group_at (r / 64)) (λ n. bit_of n (r % 64) ≡ true)

-- One store was made: the group word of slot r was found with the slot's bit clear, and left with it set and each other
-- bit as it was.
pub record TakesOne (r : ℕ) (found : List Look) : Type 0 where
  pub word : ℕ
  pub left : ℕ
  pub was_found : In found (Loaded (group_at (r / 64)) word)
  pub was_free : bit_of word (r % 64) ≡ false
  pub is_set : bit_of left (r % 64) ≡ true
  pub others : DiffersAt r word left
  pub stores : stores_in found ≡ (group_at (r / 64), left) ∷ []

-- the bit of each slot was found set
abbrev pub AllWereClaimed : Sizes → List Look → Type 0
AllWereClaimed key found = (r : ℕ) → r < key.slots → WasClaimed r found

-- and these are the words that were found since: none was stored
pub record FindsAllClaimed (key : Sizes) (old new : List Look) : Type 0 where
  pub found : List Look
  pub looks : new ≡ found ++ old
  pub claimed : AllWereClaimed key found
  pub none_stored : stores_in found ≡ []

-- the last word that was stored is the group word of slot r, and leaves the slot's bit clear
pub record LeavesFree (r : ℕ) (old new : List Look) : Type 0 where
  pub left : ℕ
  pub is_clear : bit_of left (r % 64) ≡ false
  pub looks : new ≡ Stored (group_at (r / 64)) left ∷ old

module _ {S : Type 0} (qsbr : Bool) (allows : Log → LiveEvent → Type 0) where
  -- the seat found these words, the last one first, and has this right to a slot now
  abbrev pub Sought : List Look → SlotRight → Me S View → Me S View → Type 0
  Sought found x m m' = Went qsbr allows (record m.0 { looks = found ++ m.0.looks; slot = x }) m m'

  -- the seat found slot r free, took it and stored nothing else: its word is closed, and no section is open in it
  pub record Finds (r : ℕ) (m m' : Me S View) : Type 0 where
    pub found : List Look
    pub sought : Sought found m'.0.slot m m'
    pub takes : TakesOne r found
    pub claimed : IsClaimed qsbr r m'.0

  -- what the seat found is so, it stored nothing, and it has the right to a slot that it had
  pub record Misses (so : List Look → Type 0) (m m' : Me S View) : Type 0 where
    pub found : List Look
    pub sought : Sought found m.0.slot m m'
    pub is_so : so found
    pub none_stored : stores_in found ≡ []

-- The reader's slot was given back by the seat, which has no right now: it has seen and heard all that the reader had,
-- and the Close of the section that was open, if one was. No section was opened in the slot meanwhile.
pub record IsGivenBack {P K : Type 0} {g : plan.Ghosts P} (qsbr : Bool) (allows : Log → LiveEvent → Type 0) (r : ReaderCore P K g) (s : Seat CallbackId View) : Type 0 where
  pub table : s.table_id ≡ r.seat.table_id
  pub none_held : s.me.1 ≡ []
  pub later : Begins r.seat.me.0.seen s.me.0.seen × Begins r.seat.me.0.heard s.me.0.seen
  pub run : IsLiveRun qsbr allows s.me.0.seen
  pub closed : ¬ IsClosed qsbr r.word → Has (Close r.slot (count_in r.seat.me.0.slot)) s.me.0.seen
  pub counted : sections_of r.slot s.me.0.seen ≡ count_in r.seat.me.0.slot
  pub free : LeavesFree r.slot r.seat.me.0.looks s.me.0.looks
