use Rattle.std.proofs.Common.{rules}
use Rattle.rcu_judge.specs.Objects.{states_of}
use Rattle.rcu_judge.proofs.states.state_of.Goals as goal

pub returns : goal.returns
unfolding states_of
returns c = search rules
