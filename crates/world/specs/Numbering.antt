-- How large the numbers that events give are.
use Rattle.std.specs.Prelude.{ℕ, ◌<◌, ◌≤◌, Option, Some, None}
use Rattle.rcu_model.specs.declared.event.SectionId.{SectionId}
use Rattle.rcu_model.specs.declared.event.ObjectId.{ObjectId}
use Rattle.rcu_model.specs.declared.event.Event.{Event}
use Rattle.rcu_model.specs.declared.event.Event.TheVariants.{Open, Close, First, Next, Touch, Push, Replace, Cut, Retire, Queue, Run, Ask, Answer, Bar, Clear}

-- a section of one of at most 64 readers
abbrev pub IsSectionWithin : ℕ → SectionId → Type 0
IsSectionWithin limit s = (s.reader < 64) × (s.ordinal ≤ limit)

abbrev pub IsFoundWithin : ℕ → Option ObjectId → Type 0
IsFoundWithin limit None = Unit {0}
IsFoundWithin limit (Some o) = o.0 ≤ limit

-- ordinals, objects, asks and barriers are at most the limit, chains below 64, and queues below 8
abbrev pub IsNumberedWithin : ℕ → Event → Type 0
IsNumberedWithin limit (Open s) = IsSectionWithin limit s
IsNumberedWithin limit (Close s) = IsSectionWithin limit s
IsNumberedWithin limit (First s c found) = IsSectionWithin limit s × (c < 64) × IsFoundWithin limit found
IsNumberedWithin limit (Next s o found) = IsSectionWithin limit s × (o.0 ≤ limit) × IsFoundWithin limit found
IsNumberedWithin limit (Touch s o) = IsSectionWithin limit s × (o.0 ≤ limit)
IsNumberedWithin limit (Push c o) = (c < 64) × (o.0 ≤ limit)
IsNumberedWithin limit (Replace c old new) = (c < 64) × (old.0 ≤ limit) × (new.0 ≤ limit)
IsNumberedWithin limit (Cut c o) = (c < 64) × (o.0 ≤ limit)
IsNumberedWithin limit (Retire o) = o.0 ≤ limit
IsNumberedWithin limit (Queue o q) = (o.0 ≤ limit) × (q < 8)
IsNumberedWithin limit (Run o) = o.0 ≤ limit
IsNumberedWithin limit (Ask a) = a ≤ limit
IsNumberedWithin limit (Answer a) = a ≤ limit
IsNumberedWithin limit (Bar b) = b ≤ limit
IsNumberedWithin limit (Clear b) = b ≤ limit
