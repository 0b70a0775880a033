-- The order in which callbacks run, in a log that is a run of the machine: so each object is queued once, before it
-- runs.
use Rattle.std.specs.Prelude.{ℕ, List}
use Rattle.rcu_model.specs.declared.event.Event.{Event}
use Rattle.rcu_model.specs.RunOrder.{RunsInOrder}

-- in each queue, the callbacks that ran are the first ones that were queued, and ran in the order of the queue; the
-- others wait behind them
abbrev pub RunInOrder : List Event → Type 0
RunInOrder log = (q : ℕ) → RunsInOrder q log
