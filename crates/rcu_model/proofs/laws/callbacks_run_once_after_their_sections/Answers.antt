use Rattle.rcu_model.proofs.Headline.{runs_once, uses_none}
use Rattle.rcu_model.proofs.laws.callbacks_run_once_after_their_sections.Goals as goal

pub returns-clause-once : goal.returns-clause-once
returns-clause-once c = runs_once

pub returns-clause-unused : goal.returns-clause-unused
returns-clause-unused c = uses_none
