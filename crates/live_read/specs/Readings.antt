-- The readings of a section among the events of the log.
use Rattle.gp_memb.specs.declared.plan.GracePlan as plan
use Rattle.std.specs.Prelude.{◌≡◌, ◌∷◌, Some}
use Rattle.rcu_model.specs.declared.event.ObjectId.{ObjectId}
use Rattle.rcu_model.specs.declared.event.SectionId.{SectionId}
use Rattle.live_log.specs.Log.{Log}
use Rattle.live_log.specs.declared.reading.Reading.{Reading}
use Rattle.live_log.specs.declared.reading.Mark.TheVariants.{Read}
use Rattle.live_log.specs.Fit.{FitIn, HoldsIn, Readings, found_by, later}
use Rattle.live_read.specs.declared.reader_core.ReaderCore.{ReaderCore}
use Rattle.live_read.specs.Holding.{log_of, section_of}
use Rattle.live_read.specs.Sections.{IsIn}

module _ {P K : Type 0} {g : plan.Ghosts P} where
  -- the reader is in this section, and these readings, put into the log that it has seen, are fitted to it
  pub record HasRead (s : SectionId) (m : Readings) (r : ReaderCore P K g) : Type 0 where
    pub same : section_of r ≡ s
    pub inside : IsIn r
    pub fit : FitIn m (log_of r)

  -- it has seen more, and read nothing after them: the section holds what it held
  pub record HasReadNoMore (s : SectionId) (m : Readings) (r : ReaderCore P K g) : Type 0 where
    pub since : Log
    pub read : HasRead s (later since m) r
    pub keeps : (o : ObjectId) → HoldsIn m s o → HoldsIn (later since m) s o

  -- it has read this after them: the section holds what it held, and what it found
  pub record HasReadMore (s : SectionId) (m : Readings) (x : Reading) (r : ReaderCore P K g) : Type 0 where
    pub since : Log
    pub read : HasRead s (Read s x ∷ later since m) r
    pub keeps : (o : ObjectId) → HoldsIn m s o → HoldsIn (Read s x ∷ later since m) s o
    pub finds : (o : ObjectId) → found_by x ≡ Some o → HoldsIn (Read s x ∷ later since m) s o
