-- What a log says of callbacks, asks and barriers, by its events alone: [saferecl.rcu], where an evaluation is
-- scheduled by `Retire` and done by `Run`.
use Rattle.std.specs.Prelude.{◌≡◌, ◌⊎◌, ℕ, List, ◌∷◌, ◌++◌, Some}
use Rattle.std.specs.List.{Contains}
use Rattle.rcu_model.specs.declared.event.SectionId.{SectionId}
use Rattle.rcu_model.specs.declared.event.ObjectId.{ObjectId}
use Rattle.rcu_model.specs.declared.event.Event.{Event}
use Rattle.rcu_model.specs.declared.event.Event.TheVariants.{Open, Close, First, Next, Touch, Push, Replace, Cut, Retire, Queue, Run, Ask, Answer, Bar, Clear}

-- the section was opened, and has not been closed
pub record IsOpenAfter (log : List Event) (s : SectionId) : Type 0 where
  pub opened : Contains log (Open s)
  pub not_closed : ¬ Contains log (Close s)

-- these events let the object's callback run: it was retired, every section that was open then has been closed since,
-- and it has not run before
pub record LetsRun (log : List Event) (o : ObjectId) : Type 0 where
  pub retired : Contains log (Retire o)
  pub closed : (earlier since : List Event) (s : SectionId) → log ≡ earlier ++ Retire o ∷ since → IsOpenAfter earlier s → Contains since (Close s)
  pub not_yet_run : ¬ Contains log (Run o)

-- an object's callback runs at most once, and only after every section open at its retirement has ended
abbrev pub RunsOnceAfterItsSections : List Event → Type 0
RunsOnceAfterItsSections log = (before later : List Event) (o : ObjectId) → log ≡ before ++ Run o ∷ later → LetsRun before o

-- these events let the ask be answered: it was made, every section that was open then has been closed since, and it has
-- not been answered before
pub record LetsAnswer (log : List Event) (a : ℕ) : Type 0 where
  pub asked : Contains log (Ask a)
  pub closed : (earlier since : List Event) (s : SectionId) → log ≡ earlier ++ Ask a ∷ since → IsOpenAfter earlier s → Contains since (Close s)
  pub not_yet_answered : ¬ Contains log (Answer a)

-- an ask is answered at most once, and only after every section open when it was made has ended: `synchronize_rcu`
abbrev pub AnswersOnceAfterItsSections : List Event → Type 0
AnswersOnceAfterItsSections log = (before later : List Event) (a : ℕ) → log ≡ before ++ Answer a ∷ later → LetsAnswer before a

-- the object's callback was queued, and has not run
pub record IsQueuedAfter (log : List Event) (o : ObjectId) : Type 0 where
  pub queue : ℕ
  pub queued : Contains log (Queue o queue)
  pub not_run : ¬ Contains log (Run o)

-- these events let the barrier be over: it was begun, every callback that was queued then has run since, and it was not
-- over before
pub record LetsClear (log : List Event) (b : ℕ) : Type 0 where
  pub begun : Contains log (Bar b)
  pub run : (earlier since : List Event) (o : ObjectId) → log ≡ earlier ++ Bar b ∷ since → IsQueuedAfter earlier o → Contains since (Run o)
  pub not_yet_cleared : ¬ Contains log (Clear b)

-- a barrier is over at most once, and only after every callback queued when it began has run: `rcu_barrier`
abbrev pub ClearsOnceAfterItsCallbacks : List Event → Type 0
ClearsOnceAfterItsCallbacks log = (before later : List Event) (b : ℕ) → log ≡ before ++ Clear b ∷ later → LetsClear before b

-- these events let the object's callback be queued: it was retired, and its callback has not been queued
pub record LetsQueue (log : List Event) (o : ObjectId) : Type 0 where
  pub retired : Contains log (Retire o)
  pub not_yet_queued : (q : ℕ) → ¬ Contains log (Queue o q)

-- a callback is queued at most once, and only after its object was retired: `call_rcu`
abbrev pub QueuesOnceAfterRetirement : List Event → Type 0
QueuesOnceAfterRetirement log = (before later : List Event) (o : ObjectId) (q : ℕ) → log ≡ before ++ Queue o q ∷ later → LetsQueue before o

-- a callback runs only after it was queued
abbrev pub RunsAfterItsQueueing : List Event → Type 0
RunsAfterItsQueueing log = (before later : List Event) (o : ObjectId) → log ≡ before ++ Run o ∷ later → (q : ℕ) × Contains before (Queue o q)

-- a section is opened at most once
abbrev pub OpensOnce : List Event → Type 0
OpensOnce log = (before later : List Event) (s : SectionId) → log ≡ before ++ Open s ∷ later → ¬ Contains before (Open s)

-- the event reads the object, or finds it
abbrev pub Uses : Event → ObjectId → Type 0
Uses (Open s) o = ⊥
Uses (Close s) o = ⊥
Uses (First s c found) o = found ≡ Some o
Uses (Next s from found) o = (from ≡ o) ⊎ (found ≡ Some o)
Uses (Touch s read) o = read ≡ o
Uses (Push c new) o = ⊥
Uses (Replace c old new) o = ⊥
Uses (Cut c out) o = ⊥
Uses (Retire out) o = ⊥
Uses (Queue out q) o = ⊥
Uses (Run out) o = ⊥
Uses (Ask a) o = ⊥
Uses (Answer a) o = ⊥
Uses (Bar b) o = ⊥
Uses (Clear b) o = ⊥

-- no section uses an object whose callback has run
abbrev pub UsesNoReclaimed : List Event → Type 0
UsesNoReclaimed log = (before later : List Event) (e : Event) (o : ObjectId) → log ≡ before ++ e ∷ later → Uses e o → ¬ Contains before (Run o)
