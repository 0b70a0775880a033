use Rattle.rcu_judge.proofs.Steps.{run_goes, run_waits, run_none}
use Rattle.rcu_judge.proofs.Refusals.{on_err, keeps_objects}
use Rattle.rcu_judge.proofs.checker.Checker.run.Goals as goal

pub returns-in_default-clause-answered : goal.returns-in_default-clause-answered
returns-in_default-clause-answered c = λ now r f. run_none c.args.self.now c.args.object c.in_default.ensures now f

pub returns-in_err-reclaim-clause-refused : goal.returns-in_err-reclaim-clause-refused
returns-in_err-reclaim-clause-refused c = on_err c.from_residual.result (keeps_objects c.args.self.now c.reclaim.new.self c.in_err-reclaim.ensures.refused)

pub returns-then-not-all_closed-clause-answered : goal.returns-then-not-all_closed-clause-answered
returns-then-not-all_closed-clause-answered c = λ now r f. run_waits c.args.self.now c.args.object c.in-Some.waiting c.all_closed.result c.in-Some.ensures c.all_closed.ensures now r f c.if-not-all_closed.true

pub returns-clause-answered : goal.returns-clause-answered
returns-clause-answered c = λ now r f. run_goes c.args.self.now c.args.object c.in-Some.waiting c.all_closed.result c.in-Some.ensures c.all_closed.ensures now r f
    c.reclaim.new.self c.leave.new.self c.leave.result c.if-not-all_closed.false c.leave.ensures.left c.leave.ensures.was c.in_ok-reclaim.ensures.run
