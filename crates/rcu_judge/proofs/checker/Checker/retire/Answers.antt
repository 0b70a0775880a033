use Rattle.rcu_judge.proofs.Steps.{retire_goes}
use Rattle.rcu_judge.proofs.checker.Checker.retire.Goals as goal

pub returns : goal.returns
returns c = λ now r f. retire_goes c.args.self.now c.retire.new.self c.args.object c.moment.result c.retire.result c.moment.ensures c.retire.ensures now f
