-- Logs that go on, and that a log is a run in one way at most.
use Rattle.std.proofs.Common.{◌≡◌, List, [], ◌∷◌, ◌++◌, refl}
use Rattle.std.specs.Coded.{×_prop}
use Rattle.std.proofs.Props.{props}
use Rattle.rcu_model.specs.declared.event.Event.{Event}
use Rattle.rcu_model.specs.declared.event.Event.TheVariants.{Open, Close, First, Next, Touch, Push, Replace, Cut, Retire, Queue, Run, Ask, Answer, Bar, Clear}
use Rattle.rcu_model.specs.Machine.{State, start, IsAllowed, AreAllowed, IsRun, after, after_all}

pub allowed_append : (now : State) (es fs : List Event) → AreAllowed now es → AreAllowed (after_all now es) fs → AreAllowed now (es ++ fs)
allowed_append now [] fs a b = b
allowed_append now (e ∷ es) fs a b = (a.0, allowed_append (after now e) es fs a.1 b)

pub after_append : (now : State) (es fs : List Event) → after_all now (es ++ fs) ≡ after_all (after_all now es) fs
after_append now [] fs = refl
after_append now (e ∷ es) fs = after_append (after now e) es fs

-- the rules are facts with one proof at most
pub allowed_prop : (now : State) (e : Event) → IsProp (IsAllowed now e)
allowed_prop now (Open s) = hlevel props
allowed_prop now (Close s) = hlevel props
allowed_prop now (First s c found) = hlevel props
allowed_prop now (Next s o found) = hlevel props
allowed_prop now (Touch s o) = hlevel props
allowed_prop now (Push c o) = hlevel props
allowed_prop now (Replace c old new) = hlevel props
allowed_prop now (Cut c o) = hlevel props
allowed_prop now (Retire o) = hlevel props
allowed_prop now (Queue o q) = hlevel props
allowed_prop now (Run o) = hlevel props
allowed_prop now (Ask a) = hlevel props
allowed_prop now (Answer a) = hlevel props
allowed_prop now (Bar b) = hlevel props
allowed_prop now (Clear b) = hlevel props

are_allowed_prop : (now : State) (es : List Event) → IsProp (AreAllowed now es)
are_allowed_prop now [] = hlevel props
are_allowed_prop now (e ∷ es) = ×_prop (allowed_prop now e) (are_allowed_prop (after now e) es)

pub run_prop : (log : List Event) → IsProp (IsRun log)
run_prop log = are_allowed_prop start log
