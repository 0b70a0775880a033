use Rattle.rcu_judge.proofs.ObjectsTables.{states_same}
use Rattle.rcu_judge.proofs.states.make_room.Goals as goal

pub returns-clause-same : goal.returns-clause-same
returns-clause-same c = states_same c.args.states.now c.reserve.new.self c.reserve.ensures.entries.2
