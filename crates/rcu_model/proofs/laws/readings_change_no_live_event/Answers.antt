use Rattle.rcu_model.proofs.Fitting.{live_alone, live_allowed}
use Rattle.rcu_model.proofs.laws.readings_change_no_live_event.Goals as goal

pub returns-clause-alone : goal.returns-clause-alone
returns-clause-alone c = live_alone

pub returns-clause-same : goal.returns-clause-same
returns-clause-same c = live_allowed
