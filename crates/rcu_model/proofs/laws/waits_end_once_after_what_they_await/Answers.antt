use Rattle.rcu_model.proofs.Endings.{answers_once, clears_once}
use Rattle.rcu_model.proofs.laws.waits_end_once_after_what_they_await.Goals as goal

pub returns-clause-answers : goal.returns-clause-answers
returns-clause-answers c = answers_once

pub returns-clause-clears : goal.returns-clause-clears
returns-clause-clears c = clears_once
