use Rattle.rcu_judge.proofs.Cited.{refl, Push}
use Rattle.rcu_judge.proofs.Steps.{store_goes}
use Rattle.rcu_judge.proofs.Refusals.{on_err, keeps_objects}
use Rattle.rcu_judge.proofs.checker.Checker.push.Goals as goal

pub returns-clause-answered : goal.returns-clause-answered
returns-clause-answered c = store_goes c.args.self.now c.push.new.self (Push c.args.chain c.args.object) c.in_ok-done.done (λ _. refl) c.in_ok-done.ensures.done

pub returns-in_err-done-clause-refused : goal.returns-in_err-done-clause-refused
returns-in_err-done-clause-refused c = on_err c.from_residual.result (keeps_objects c.args.self.now c.push.new.self c.in_err-done.ensures.refused)
