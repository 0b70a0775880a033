-- How many sections are open, and how many objects are retired and run, by the events and by the machine's state.
use Rattle.std.specs.Prelude.{◌≡◌, ◌-◌, Bool, true, false, not, List, filter, length, count_by}
use Rattle.rcu_model.specs.declared.event.Event.{Event}
use Rattle.rcu_model.specs.declared.event.Event.TheVariants.{Open, Close, Retire, Run}
use Rattle.rcu_model.specs.declared.event.ObjectId.{ObjectId}
use Rattle.rcu_model.specs.Machine.{State, state_after}
use Rattle.rcu_model.specs.Sets.{has_object}

abbrev pub opens : Event → Bool
opens (Open _) = true
opens _ = false

abbrev pub closes : Event → Bool
closes (Close _) = true
closes _ = false

abbrev pub retires : Event → Bool
retires (Retire _) = true
retires _ = false

abbrev pub runs : Event → Bool
runs (Run _) = true
runs _ = false

-- the objects that are retired and whose callbacks have not run
abbrev pub waiting_in : State → List ObjectId
waiting_in now = filter (λ o. not (has_object now.reclaimed o)) now.retired

-- what the events count is what the state has
pub record CountsItsState (log : List Event) : Type 0 where
  pub sections : length (state_after log).sections ≡ count_by opens log - count_by closes log
  pub waiting : length (waiting_in (state_after log)) ≡ count_by retires log - count_by runs log
  pub runs : length (state_after log).reclaimed ≡ count_by runs log
