-- The order in which the callbacks of a queue run, in a log that is a run of the machine: so each object is queued
-- once, before it runs.
use Rattle.std.specs.Prelude.{◌≡◌, ℕ, ◌==◌, if◌then◌else◌, List, ◌∷◌, ◌++◌, filter, Option, Some, None}
use Rattle.std.specs.List.{filter_map}
use Rattle.rcu_model.specs.declared.event.Event.{Event}
use Rattle.rcu_model.specs.declared.event.Event.TheVariants.{Queue, Run}
use Rattle.rcu_model.specs.declared.event.ObjectId.{ObjectId}
use Rattle.rcu_model.specs.Sets.{In, has_object}

-- the object that the event puts into this queue; and the one whose callback it runs
abbrev pub queued_by : ℕ → Event → Option ObjectId
queued_by q (Queue o p) = if p == q then Some o else None
queued_by q e = None

abbrev pub run_by : Event → Option ObjectId
run_by (Run o) = Some o
run_by e = None

-- the objects that were queued in this queue, in this order; and those of them whose callbacks ran, in that order
abbrev pub queued_into : ℕ → List Event → List ObjectId
queued_into q log = filter_map (queued_by q) log

abbrev pub run_from : ℕ → List Event → List ObjectId
run_from q log = filter (λ o. has_object (queued_into q log) o) (filter_map run_by log)

-- the callbacks that ran are the first ones that were queued in this queue, and ran in its order; the others wait
-- behind them
abbrev pub RunsInOrder : ℕ → List Event → Type 0
RunsInOrder q log = (waiting : List ObjectId) × (queued_into q log ≡ run_from q log ++ waiting)

-- each callback of the queue runs as the first of those that wait in it: first in, first out
abbrev pub RunsFirst : ℕ → List Event → Type 0
RunsFirst q log = (before later : List Event) (o : ObjectId) → log ≡ before ++ Run o ∷ later → In (queued_into q before) o → (behind : List ObjectId) × (queued_into q before ≡ run_from q before ++ o ∷ behind)
