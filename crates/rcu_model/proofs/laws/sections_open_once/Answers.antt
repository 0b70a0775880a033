use Rattle.rcu_model.proofs.Endings.{opens_once}
use Rattle.rcu_model.proofs.laws.sections_open_once.Goals as goal

pub returns : goal.returns
returns c = opens_once
