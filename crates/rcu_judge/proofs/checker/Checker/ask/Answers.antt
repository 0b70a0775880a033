use Rattle.rcu_judge.proofs.Refusals.{on_err, keeps_asks}
use Rattle.rcu_judge.proofs.Steps.{ask_goes}
use Rattle.rcu_judge.proofs.checker.Checker.ask.Goals as goal

pub returns-clause-answered : goal.returns-clause-answered
returns-clause-answered c = λ now r f. ask_goes c.args.self.now c.begin.new.self c.args.ask c.moment.result c.in_ok-fresh.fresh c.moment.ensures c.in_ok-fresh.ensures.began now f

pub returns-in_err-fresh-clause-refused : goal.returns-in_err-fresh-clause-refused
returns-in_err-fresh-clause-refused c = on_err c.from_residual.result (keeps_asks c.args.self.now c.begin.new.self c.in_err-fresh.ensures.refused)
