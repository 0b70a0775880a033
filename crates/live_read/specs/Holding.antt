-- What a reader has seen, its section, and what the section may hold.
use Rattle.gp_memb.specs.declared.plan.GracePlan as plan
use Rattle.std.specs.Prelude.{◌≡◌, ℕ, ◌<◌}
use Rattle.rcu_model.specs.declared.event.ObjectId.{ObjectId}
use Rattle.rcu_model.specs.declared.event.SectionId.{SectionId}
use Rattle.live_log.specs.Log.{Log, WasLinked, section, record_of}
use Rattle.live_words.specs.live_rule.Rights.{count_in}
use Rattle.live_read.specs.declared.reader_core.ReaderCore.{ReaderCore}

module _ {P K : Type 0} {g : plan.Ghosts P} where
  -- the log that the reader has seen
  abbrev pub log_of : ReaderCore P K g → Log
  log_of r = r.seat.me.0.seen

  -- how many sections of the log its slot has had: the ordinal of the one that is open, where one is
  abbrev pub ordinal : ReaderCore P K g → ℕ
  ordinal r = count_in r.seat.me.0.slot

  -- the section of the log in which the reader is, where it is in one
  abbrev pub section_of : ReaderCore P K g → SectionId
  section_of r = section r.slot (ordinal r)

  -- it is of the same table, of the same sizes
  abbrev pub KeepsTable : ReaderCore P K g → ReaderCore P K g → Type 0
  KeepsTable r s = (s.seat.table_id ≡ r.seat.table_id) × (s.seat.me.0.sizes ≡ r.seat.me.0.sizes)

  -- the section may hold the object, which was linked since the section was opened, and lies in this record
  pub record MayHold (r : ReaderCore P K g) (o : ObjectId) (cell : ℕ) : Type 0 where
    pub was_linked : WasLinked (section_of r) o (log_of r)
    pub lies : (record_of (log_of r) o).0 ≡ cell
    pub low : cell < r.seat.me.0.sizes.pool

  -- it may hold some object in this record
  pub record MayHoldIn (r : ReaderCore P K g) (cell : ℕ) : Type 0 where
    pub object : ObjectId
    pub holds : MayHold r object cell

  -- what it may have held before it may hold still, with the same words
  pub record KeepsHeld (r s : ReaderCore P K g) : Type 0 where
    pub held : (o : ObjectId) (cell : ℕ) → MayHold r o cell → MayHold s o cell
    pub notes : (o : ObjectId) (cell : ℕ) → MayHold r o cell → record_of (log_of s) o ≡ record_of (log_of r) o
