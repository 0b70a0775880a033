use Rattle.rcu_model.proofs.Backwards.{run_is, state_is}
use Rattle.rcu_model.proofs.laws.runs_read_both_ways.Goals as goal

pub returns-clause-run : goal.returns-clause-run
returns-clause-run c = run_is

pub returns-clause-state : goal.returns-clause-state
returns-clause-state c = state_is
