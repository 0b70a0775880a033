-- What a reader in a section finds.
use Rattle.gp_memb.specs.declared.plan.GracePlan as plan
use Rattle.std.specs.Prelude.{◌≡◌, ℕ, Bool, List, Option, None, Some, slice_index_or}
use Rattle.rcu_model.specs.declared.event.ObjectId.{ObjectId}
use Rattle.rcu_model.specs.Sets.{first_of}
use Rattle.live_log.specs.declared.event.LiveEvent.{LiveEvent}
use Rattle.live_log.specs.Log.{Log, Follows, record_of, objects_of, payload_of}
use Rattle.live_read.specs.declared.reader_core.ReaderCore.{ReaderCore}
use Rattle.live_read.specs.Hearing.{IsAfter}
use Rattle.live_read.specs.Holding.{KeepsHeld, MayHold, log_of, ordinal}
use Rattle.live_read.specs.Sections.{IsIn}

module _ {P K : Type 0} {g : plan.Ghosts P} where
  -- this is the first object of the chain, and this follows the object, in the log that the reader has seen
  abbrev pub FindsFirst : ReaderCore P K g → ℕ → Option ObjectId → Type 0
  FindsFirst r c found = first_of ((objects_of (log_of r)).chain c) ≡ found

  abbrev pub FindsNext : ReaderCore P K g → ObjectId → Option ObjectId → Type 0
  FindsNext r o found = Follows (objects_of (log_of r)) o found

  -- this record has the first object of the chain, which the reader may hold
  abbrev pub HoldsFirst : ReaderCore P K g → ℕ → ℕ → Type 0
  HoldsFirst r c cell = (o : ObjectId) × FindsFirst r c (Some o) × MayHold r o cell

  -- Of an object that the reader may have held in this record: nothing follows it, or what follows it lies in the other
  -- record, and may be held.
  abbrev pub HoldsLast : ReaderCore P K g → ReaderCore P K g → ℕ → Type 0
  HoldsLast r s cell = (o : ObjectId) → MayHold r o cell → FindsNext s o None

  abbrev pub HoldsNext : ReaderCore P K g → ReaderCore P K g → ℕ → ℕ → Type 0
  HoldsNext r s cell next_cell = (o : ObjectId) → MayHold r o cell → (next : ObjectId) × FindsNext s o (Some next) × MayHold s next next_cell

  -- the words of an object that the reader may hold in this record, and one of them
  abbrev pub HasWords : ReaderCore P K g → ℕ → List ℕ → Type 0
  HasWords r cell words = (o : ObjectId) → MayHold r o cell → words ≡ payload_of (log_of r) o

  abbrev pub HasWord : ReaderCore P K g → ℕ → ℕ → ℕ → Type 0
  HasWord r cell index word = (o : ObjectId) → MayHold r o cell → word ≡ slice_index_or (record_of (log_of r) o).1 index 0

  -- The reader has made a load. It is in the same section with the same locks, and has seen all that it had seen and
  -- heard of. What it held it holds, with the same words.
  pub record Looks (qsbr : Bool) (allows : Log → LiveEvent → Type 0) (r s : ReaderCore P K g) : Type 0 where
    pub same : (s.slot ≡ r.slot) × (s.word ≡ r.word) × (s.depth ≡ r.depth) × (s.locks ≡ r.locks) × (ordinal s ≡ ordinal r)
    pub later : IsAfter qsbr allows (log_of r) r.seat.me.0.heard (log_of s)
    pub heard : s.seat.me.0.heard ≡ r.seat.me.0.heard
    pub inside : IsIn s
    pub keeps : KeepsHeld r s
