use Rattle.rcu_model.proofs.Safety.{held_safe, held_open}
use Rattle.rcu_model.proofs.laws.held_is_not_reclaimed.Goals as goal

pub returns-clause-not_reclaimed : goal.returns-clause-not_reclaimed
returns-clause-not_reclaimed c = held_safe

pub returns-clause-still_open : goal.returns-clause-still_open
returns-clause-still_open c = held_open
