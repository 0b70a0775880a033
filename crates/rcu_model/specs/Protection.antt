-- What a section may have got to, by the chains alone.
use Rattle.std.specs.Prelude.{◌≡◌, ℕ, List, ◌++◌}
use Rattle.rcu_model.specs.declared.event.SectionId.{SectionId}
use Rattle.rcu_model.specs.declared.event.ObjectId.{ObjectId}
use Rattle.rcu_model.specs.declared.event.Event.{Event}
use Rattle.rcu_model.specs.Machine.{IsOpen, IsLinkedIn, state_after}

-- the object was linked at some moment at which the section was open
pub record WasLinkedIn (log : List Event) (s : SectionId) (o : ObjectId) : Type 0 where
  pub earlier : List Event
  pub since : List Event
  pub split : log ≡ earlier ++ since
  pub was_open : IsOpen (state_after earlier) s
  pub chain : ℕ
  pub linked : IsLinkedIn (state_after earlier) chain o
