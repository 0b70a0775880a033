-- Parts of what the checker knows change, and the others stay.
use Rattle.rcu_judge.proofs.Cited.{Bool, List, ℕ, HasObject, ObjectId, State, not_run}
use Rattle.rcu_judge.specs.declared.checker.Checker.{Checker}
use Rattle.rcu_judge.specs.declared.holdings.Holdings.{Holdings}
use Rattle.rcu_judge.specs.declared.objects.Objects.{Objects}
use Rattle.rcu_judge.specs.declared.sections.Sections.{Sections}
use Rattle.rcu_judge.specs.declared.waits.Waits.{Waits}
use Rattle.rcu_judge.specs.Roster.{Rostered}
use Rattle.rcu_judge.specs.Sections.{AreSections}
use Rattle.rcu_judge.specs.Waits.{AreWaits}
use Rattle.rcu_judge.specs.Objects.{Knows}
use Rattle.rcu_judge.specs.Checker.{AreHeld, RetiredAwait, AsksAwait, BarriersAwait, Follows}

-- the later state differs from now in what it says of sections, of objects, or of waits
module _ (k : Checker) (now later : State) (f : Follows k now) where
  abbrev pub sections_changed : State
  sections_changed = record now { seen = later.seen; sections = later.sections; held = later.held; awaited = later.awaited; asked_sections = later.asked_sections }

  pub of_sections : (sections : Sections) (holdings : Holdings) → AreSections sections later.seen later.sections → AreHeld holdings later.seen later.sections later.held →
      RetiredAwait sections later.sections now.retired later.awaited f.moments → AsksAwait k.asks sections later.sections later.asked_sections → Follows (record k { sections = sections; holdings = holdings }) sections_changed
  of_sections sections holdings are held retired asked = record {
    moments = f.moments;
    tickets = f.tickets;
    sections = are;
    holdings = held;
    objects = f.objects;
    retired = retired;
    queued = f.queued;
    asks = f.asks;
    asked = asked;
    barriers = f.barriers;
    noted = f.noted;
  }

  abbrev pub objects_changed : State
  objects_changed = record later { seen = now.seen; sections = now.sections; held = now.held; asked = now.asked; answered = now.answered; asked_sections = now.asked_sections; noted = now.noted; cleared = now.cleared }

  pub of_objects : (objects : Objects) (queued : List Bool) (moments tickets : ObjectId → ℕ) → Knows objects later moments tickets → RetiredAwait k.sections now.sections later.retired later.awaited moments →
      Rostered (HasObject later.queued) (HasObject (not_run later)) tickets queued → BarriersAwait k.barriers queued tickets (not_run later) later.noted_objects → Follows (record k { objects = objects; queued = queued }) objects_changed
  of_objects objects queued moments tickets knows retired rostered noted = record {
    moments = moments;
    tickets = tickets;
    sections = f.sections;
    holdings = f.holdings;
    objects = knows;
    retired = retired;
    queued = rostered;
    asks = f.asks;
    asked = f.asked;
    barriers = f.barriers;
    noted = noted;
  }

  abbrev pub waits_changed : State
  waits_changed = record now { asked = later.asked; answered = later.answered; asked_sections = later.asked_sections; noted = later.noted; cleared = later.cleared; noted_objects = later.noted_objects }

  pub of_waits : (asks barriers : Waits) → AreWaits asks later.asked later.answered → AsksAwait asks k.sections now.sections later.asked_sections →
      AreWaits barriers later.noted later.cleared → BarriersAwait barriers k.queued f.tickets (not_run now) later.noted_objects → Follows (record k { asks = asks; barriers = barriers }) waits_changed
  of_waits asks barriers are_asks asked are_barriers noted = record {
    moments = f.moments;
    tickets = f.tickets;
    sections = f.sections;
    holdings = f.holdings;
    objects = f.objects;
    retired = f.retired;
    queued = f.queued;
    asks = are_asks;
    asked = asked;
    barriers = are_barriers;
    noted = noted;
  }
