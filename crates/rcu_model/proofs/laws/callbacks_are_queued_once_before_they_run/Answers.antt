use Rattle.rcu_model.proofs.Endings.{queues_once, runs_queued}
use Rattle.rcu_model.proofs.laws.callbacks_are_queued_once_before_they_run.Goals as goal

pub returns-clause-queued : goal.returns-clause-queued
returns-clause-queued c = queues_once

pub returns-clause-runs : goal.returns-clause-runs
returns-clause-runs c = runs_queued
