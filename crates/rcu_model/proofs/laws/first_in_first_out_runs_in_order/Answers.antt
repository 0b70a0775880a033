use Rattle.rcu_model.proofs.RunOrder.{runs_in_order}
use Rattle.rcu_model.proofs.laws.first_in_first_out_runs_in_order.Goals as goal

pub returns : goal.returns
returns c = runs_in_order
