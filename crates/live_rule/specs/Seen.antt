-- What a step of a reader, of a grace period or on the group words tells its seat.
use Rattle.std.specs.Prelude.{◌≡◌, Bool, [], ◌++◌}
use Rattle.atomic_table.specs.Table.{Me}
use Rattle.live_log.specs.declared.event.LiveEvent.{LiveEvent}
use Rattle.live_log.specs.Log.{Log, IsLiveRun, Begins}
use Rattle.live_rule.specs.declared.view.View.{View}

-- both logs of the view are beginnings of this one
abbrev pub Precedes : View → Log → Type 0
Precedes v log = Begins v.seen log × Begins v.heard log

-- the view after a step at which the whole log was this one
abbrev pub at_log : View → Log → View
at_log v log = record v { seen = log }

-- the log, which begins with all that was seen and heard, is seen with these events behind it, and all that is a run
abbrev pub Wrote : Bool → (Log → LiveEvent → Type 0) → View → Log → Log → Type 0
Wrote qsbr allows v events seen = (before : Log) × (seen ≡ events ++ before) × Begins v.seen before × Begins v.heard before × IsLiveRun qsbr allows seen

module _ {S : Type 0} (qsbr : Bool) (allows : Log → LiveEvent → Type 0) where
  -- a word was loaded, which tells the log
  abbrev pub Looked : Me S View → Me S View → Type 0
  Looked m m' = (m' ≡ (at_log m.0 m'.0.seen, m.1)) × Wrote qsbr allows m.0 [] m'.0.seen
