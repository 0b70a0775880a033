-- What the checker knows, against the state of the machine.
use Rattle.std.specs.Prelude.{◌≡◌, ◌⊎◌, ◌↔◌, ℕ, Bool, List, length, Option, Some, None, IsTrue}
use Rattle.rcu_model.specs.declared.event.SectionId.{SectionId}
use Rattle.rcu_model.specs.declared.event.ObjectId.{ObjectId}
use Rattle.rcu_model.specs.declared.event.Event.{Event}
use Rattle.rcu_judge.specs.declared.checker.Checker.{Checker}
use Rattle.rcu_judge.specs.declared.holdings.Holdings.{Holdings}
use Rattle.rcu_judge.specs.declared.sections.Sections.{Sections}
use Rattle.rcu_judge.specs.declared.waits.Waits.{Waits}
use Rattle.rcu_model.specs.Sets.{HasSection, HasObject}
use Rattle.rcu_model.specs.Machine.{State, IsAllowed, after, not_run}
use Rattle.rcu_judge.specs.Roster.{Rostered, Awaits}
use Rattle.rcu_judge.specs.Sections.{AreSections, AwaitsSections}
use Rattle.rcu_judge.specs.Holdings.{HasGot}
use Rattle.rcu_judge.specs.Waits.{AreWaits, IsPending}
use Rattle.rcu_judge.specs.Objects.{Knows, IsReached}

-- what an open section holds is what it got, and no other section than those that were opened got anything
pub record AreHeld (h : Holdings) (seen sections : List SectionId) (held : SectionId → List ObjectId) : Type 0 where
  pub opened : (s : SectionId) (o : ObjectId) → HasGot h s o → HasSection seen s
  pub holds : (s : SectionId) (o : ObjectId) → HasSection sections s → HasGot h s o ↔ HasObject (held s) o

-- a retired object awaits the sections that were opened before its moment
abbrev pub RetiredAwait : Sections → List SectionId → List ObjectId → (ObjectId → List SectionId) → (ObjectId → ℕ) → Type 0
RetiredAwait k sections retired awaited moments = (o : ObjectId) → HasObject retired o → AwaitsSections k sections (awaited o) (moments o)

-- a pending ask awaits the sections that were opened before its moment
abbrev pub AsksAwait : Waits → Sections → List SectionId → (ℕ → List SectionId) → Type 0
AsksAwait asks k sections awaited = (a moment : ℕ) → IsPending asks a moment → AwaitsSections k sections (awaited a) moment

-- a pending barrier awaits the objects that were queued before its moment
abbrev pub BarriersAwait : Waits → List Bool → (ObjectId → ℕ) → List ObjectId → (ℕ → List ObjectId) → Type 0
BarriersAwait barriers queued tickets here awaited = (b moment : ℕ) → IsPending barriers b moment → Awaits (HasObject here) (HasObject (awaited b)) tickets (length queued) moment

-- the checker knows the state
pub record Follows (k : Checker) (now : State) : Type 0 where
  pub moments : ObjectId → ℕ
  pub tickets : ObjectId → ℕ
  pub sections : AreSections k.sections now.seen now.sections
  pub holdings : AreHeld k.holdings now.seen now.sections now.held
  pub objects : Knows k.objects now moments tickets
  pub retired : RetiredAwait k.sections now.sections now.retired now.awaited moments
  pub queued : Rostered (HasObject now.queued) (HasObject (not_run now)) tickets k.queued
  pub asks : AreWaits k.asks now.asked now.answered
  pub asked : AsksAwait k.asks k.sections now.sections now.asked_sections
  pub barriers : AreWaits k.barriers now.noted now.cleared
  pub noted : BarriersAwait k.barriers k.queued tickets (not_run now) now.noted_objects

-- the answer to an event: whether it is allowed, and if so the checker knows what it leaves
pub record Goes (new : Checker) (now : State) (e : Event) (fine : Bool) : Type 0 where
  pub allowed : IsTrue fine ↔ IsAllowed now e
  pub follows : IsTrue fine → Follows new (after now e)

abbrev pub Answers : Checker → Checker → Event → Bool → Type 0
Answers old new e fine = (now : State) → IsReached now → Follows old now → Goes new now e fine

-- what was known stays known
abbrev pub Keeps : Checker → Checker → Type 0
Keeps old new = (now : State) → Follows old now → Follows new now

-- a section got what it found, if it found an object
abbrev pub GetsIn : Holdings → Holdings → SectionId → Option ObjectId → Type 0
GetsIn old new section None = new ≡ old
GetsIn old new section (Some object) = (s : SectionId) (o : ObjectId) → HasGot new s o ↔ (HasGot old s o ⊎ ((section ≡ s) × (object ≡ o)))

pub record Gets (old new : Checker) (section : SectionId) (found : Option ObjectId) : Type 0 where
  pub got : GetsIn old.holdings new.holdings section found
  pub rest : new ≡ record old { holdings = new.holdings }
