-- What a step of a grace period answers.
use Rattle.std.specs.Prelude.{ℕ, None}
use Rattle.rcu_model.specs.declared.event.Event.{Event}
use Rattle.rcu_model.specs.declared.event.Event.TheVariants as events
use Rattle.call_rcu_worker.specs.declared.sync.Told.{Told}
use Rattle.call_rcu_worker.specs.declared.sync.Told.TheVariants as what
use Rattle.world_state.specs.declared.line.Answer.{Answer}
use Rattle.world_state.specs.declared.line.Answer.TheVariants.{Events, Quiet, Wait}

abbrev pub one : Event → Answer
one e = Events e None

-- what a step answers, by what came of it
abbrev pub answer_to : ℕ → Told → Answer
answer_to ask what.Quiet = Quiet
answer_to ask what.Asked = one (events.Ask ask)
answer_to ask what.Answered = one (events.Answer ask)
answer_to ask what.Waiting = Wait
