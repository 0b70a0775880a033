use Rattle.rcu_model.proofs.Sizes.{run_counts}
use Rattle.rcu_model.proofs.laws.every_run_counts_its_state.Goals as goal

pub returns : goal.returns
returns c = run_counts
