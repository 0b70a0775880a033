use Rattle.rcu_judge.proofs.Steps.{open_goes}
use Rattle.rcu_judge.proofs.Refusals.{on_err, keeps_sections}
use Rattle.rcu_judge.proofs.checker.Checker.open.Goals as goal

pub returns-clause-answered : goal.returns-clause-answered
returns-clause-answered c = λ now r f. open_goes c.args.self.now c.open.new.self c.args.section c.in_ok-opened.opened c.in_ok-opened.ensures.opened now r f

pub returns-in_err-opened-clause-refused : goal.returns-in_err-opened-clause-refused
returns-in_err-opened-clause-refused c = on_err c.from_residual.result (keeps_sections c.args.self.now c.open.new.self c.in_err-opened.ensures.refused)
