use Rattle.rcu_judge.proofs.Cited.{arith, common_steps}
use Rattle.rcu_judge.proofs.WaitLemmas.{begins, begins_nothing}
use Rattle.rcu_judge.proofs.waits.Waits.begin.Goals as goal

pub returns-then-not-branch-clause-began : goal.returns-then-not-branch-clause-began
returns-then-not-branch-clause-began c = grind (arith, common_steps, begins_nothing)

pub returns-clause-began : goal.returns-clause-began
returns-clause-began c = grind (arith, common_steps, begins)
