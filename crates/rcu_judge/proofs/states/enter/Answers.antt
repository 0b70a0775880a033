use Rattle.rcu_judge.proofs.ObjectsTables.{states_entered}
use Rattle.rcu_judge.proofs.states.enter.Goals as goal

pub returns-clause-entered : goal.returns-clause-entered
returns-clause-entered c = states_entered c.args.states.now c.insert.new.self c.in-Some.object c.args.state c.args.object c.in-Some.is c.in_ok-insert.ensures.updates.0
