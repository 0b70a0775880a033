-- The events that stores write, and the readings that may be put among them.
use Rattle.std.specs.Prelude.{◌≡◌, Bool, true, false, not, IsTrue, List, filter}
use Rattle.rcu_model.specs.declared.event.Event.{Event}
use Rattle.rcu_model.specs.declared.event.Event.TheVariants.{Open, Close, First, Next, Touch, Push, Replace, Cut, Retire, Queue, Run, Ask, Answer, Bar, Clear}
use Rattle.rcu_model.specs.Machine.{IsAllowed, IsRun, state_after}

abbrev pub is_live : Event → Bool
is_live (Open s) = true
is_live (Close s) = true
is_live (First s c found) = false
is_live (Next s o found) = false
is_live (Touch s o) = false
is_live (Push c o) = true
is_live (Replace c old new) = true
is_live (Cut c o) = true
is_live (Retire o) = true
is_live (Queue o q) = true
is_live (Run o) = true
is_live (Ask a) = false
is_live (Answer a) = false
is_live (Bar b) = false
is_live (Clear b) = false

-- a store of live threads writes such an event
abbrev pub IsLive : Event → Type 0
IsLive e = IsTrue (is_live e)

-- no store writes it: a section reads, or somebody waits
abbrev pub IsReading : Event → Type 0
IsReading e = IsTrue (not (is_live e))

-- the log without its readings
abbrev pub live_events : List Event → List Event
live_events log = filter is_live log

-- the reading is fitted to the live log: the log's run, with the readings that were fitted earlier, may go on with it
pub record IsFitted (live earlier : List Event) (reading : Event) : Type 0 where
  pub reads : IsReading reading
  pub run : IsRun earlier
  pub of_live : live_events earlier ≡ live
  pub goes_on : IsAllowed (state_after earlier) reading
