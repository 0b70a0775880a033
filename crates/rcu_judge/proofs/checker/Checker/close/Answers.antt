use Rattle.rcu_judge.proofs.Steps.{close_goes}
use Rattle.rcu_judge.proofs.checker.Checker.close.Goals as goal

pub returns : goal.returns
returns c = λ now r f. close_goes c.args.self.now c.forget.new.self c.close.new.self c.args.section c.close.result c.forget.ensures c.close.ensures now f
