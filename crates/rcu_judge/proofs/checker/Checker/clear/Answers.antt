use Rattle.rcu_judge.proofs.Steps.{clear_goes}
use Rattle.rcu_judge.proofs.checker.Checker.clear.Goals as goal

pub returns-in-Some : goal.returns-in-Some
returns-in-Some c = λ now r f. clear_goes c.args.self.now c.end.new.self c.args.barrier c.in-Some.moment c.all_left.result c.in-Some.ensures c.all_left.ensures now f
