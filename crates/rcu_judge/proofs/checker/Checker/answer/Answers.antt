use Rattle.rcu_judge.proofs.Steps.{answer_goes}
use Rattle.rcu_judge.proofs.checker.Checker.answer.Goals as goal

pub returns-in-Some : goal.returns-in-Some
returns-in-Some c = λ now r f. answer_goes c.args.self.now c.end.new.self c.args.ask c.in-Some.moment c.all_closed.result c.in-Some.ensures c.all_closed.ensures now f
