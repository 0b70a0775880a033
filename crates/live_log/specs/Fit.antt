-- What sections read, put among the events of the log, the newest first: the log that stores write has no readings.
use Rattle.std.specs.Prelude.{◌≡◌, Bool, cond, List, [], ◌∷◌, ◌++◌, Option, Some, None}
use Rattle.rcu_model.specs.declared.event.SectionId.{SectionId}
use Rattle.rcu_model.specs.declared.event.ObjectId.{ObjectId}
use Rattle.rcu_model.specs.declared.event.Event as machine
use Rattle.rcu_model.specs.declared.event.Event.TheVariants as seen
use Rattle.rcu_model.specs.Machine as model
use Rattle.rcu_model.specs.Sets.{same_section, first_of}
use Rattle.live_log.specs.declared.event.LiveEvent.{LiveEvent}
use Rattle.live_log.specs.declared.event.LiveEvent.TheVariants.{Open, Close, Object}
use Rattle.live_log.specs.Log.{Log, Begins, Follows, IsLiveRun, section, event_of, objects_of, state_of}
use Rattle.live_log.specs.declared.reading.Reading.{Reading}
use Rattle.live_log.specs.declared.reading.Reading.TheVariants.{First, Next, Touch}
use Rattle.live_log.specs.declared.reading.Mark.{Mark}
use Rattle.live_log.specs.declared.reading.Mark.TheVariants.{Stored, Read}

-- a log with readings in it
abbrev pub Readings : Type 0
Readings = List Mark

-- what the machine sees of an event of the log: a note is nothing to it
abbrev pub shown : LiveEvent → List machine.Event
shown (Open r n m) = seen.Open (section r n) ∷ []
shown (Close r n) = seen.Close (section r n) ∷ []
shown (Object d) = event_of d ∷ []
shown _ = []

-- what the machine sees of a reading
abbrev pub read_event : SectionId → Reading → machine.Event
read_event s (First c found) = seen.First s c found
read_event s (Next o found) = seen.Next s o found
read_event s (Touch o) = seen.Touch s o

abbrev pub marked : Mark → List machine.Event
marked (Stored e) = shown e
marked (Read s x) = read_event s x ∷ []

-- the machine's events, the oldest first
abbrev pub events_in : Readings → List machine.Event
events_in [] = []
events_in (x ∷ xs) = events_in xs ++ marked x

-- the events of the log among them
abbrev pub log_in : Readings → Log
log_in [] = []
log_in (Stored e ∷ xs) = e ∷ log_in xs
log_in (Read s x ∷ xs) = log_in xs

-- the same with the readings of some sections alone
abbrev pub kept_readings : (SectionId → Bool) → Readings → Readings
kept_readings k [] = []
kept_readings k (Stored e ∷ xs) = Stored e ∷ kept_readings k xs
kept_readings k (Read s x ∷ xs) = cond (k s) (Read s x ∷ kept_readings k xs) (kept_readings k xs)

-- with those of one section
abbrev pub read_by : SectionId → Readings → Readings
read_by s = kept_readings (λ t. same_section t s)

-- events of the log put on top
abbrev pub later : Log → Readings → Readings
later [] m = m
later (e ∷ es) m = Stored e ∷ later es m

-- the log with these readings is a run of the machine
abbrev pub AreFitted : Readings → Type 0
AreFitted m = model.IsRun (events_in m)

-- the section holds the object after them
abbrev pub HoldsIn : Readings → SectionId → ObjectId → Type 0
HoldsIn m s o = model.Holds (model.state_after (events_in m)) s o

-- what a reading found
abbrev pub found_by : Reading → Option ObjectId
found_by (First c found) = found
found_by (Next o found) = found
found_by (Touch o) = None

-- put into this log they are fitted
abbrev pub FitIn : Readings → Log → Type 0
FitIn m log = (log_in m ≡ log) × AreFitted m

-- what a reading starts from is held
abbrev pub StartsHeld : Readings → SectionId → Reading → Type 0
StartsHeld m s (First c found) = Unit {0}
StartsHeld m s (Next o found) = HoldsIn m s o
StartsHeld m s (Touch o) = HoldsIn m s o

-- what it found is so in the log
abbrev pub IsSoIn : Log → Reading → Type 0
IsSoIn log (First c found) = first_of ((objects_of log).chain c) ≡ found
IsSoIn log (Next o found) = Follows (objects_of log) o found
IsSoIn log (Touch o) = Unit {0}

-- the section is open in the one log, and still in the later one
pub record StaysOpen (qsbr : Bool) (allows : Log → LiveEvent → Type 0) (s : SectionId) (old new : Log) : Type 0 where
  pub was_open : model.IsOpen (state_of old) s
  pub is_open : model.IsOpen (state_of new) s
  pub later : Begins old new
  pub run : IsLiveRun qsbr allows new

-- one more reading of the section is put into the later log and is fitted to it; the section holds what it held, and
-- what it found
pub record ReadsOn (m : Readings) (s : SectionId) (x : Reading) (new : Log) : Type 0 where
  pub since : Log
  pub fit : FitIn (Read s x ∷ later since m) new
  pub keeps : (o : ObjectId) → HoldsIn m s o → HoldsIn (Read s x ∷ later since m) s o
  pub finds : (o : ObjectId) → found_by x ≡ Some o → HoldsIn (Read s x ∷ later since m) s o
