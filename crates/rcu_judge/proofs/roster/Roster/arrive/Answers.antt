use Rattle.rcu_judge.proofs.Cited.{arith, common_steps}
use Rattle.std.proofs.Common.{◌∙◌, sym, ap, length}
use Rattle.rcu_judge.proofs.Places.{count_places, arrived, in_order_push, next_push}
use Rattle.rcu_judge.proofs.roster.Roster.arrive.Goals as goal

pub invariant_of-self-2 : goal.invariant_of-self-2
invariant_of-self-2 c = grind (arith, common_steps, in_order_push, next_push)

pub returns-clause-place : goal.returns-clause-place
returns-clause-place c = sym (count_places c.self.inside.came c.self.inside.kept.items) ∙ ap length c.self.view_is

pub returns-clause-came : goal.returns-clause-came
returns-clause-came c = grind (arith, common_steps, arrived)
