use Rattle.rcu_judge.proofs.Cited.{Some, option_eq, same_object}
use Rattle.rcu_judge.proofs.Steps.{next_goes, next_stops, next_tells, not_different, different}
use Rattle.rcu_judge.proofs.checker.Checker.next.Goals as goal

pub returns-clause-answered : goal.returns-clause-answered
returns-clause-answered c = λ now r f. next_goes c.args.self.now c.args.section c.args.from c.args.found c.after.result c.touch.result now
    (c.after.ensures now f.moments f.tickets f.objects) (c.touch.ensures now r f) c.hold.new.self c.if-not-touch.false
    (not_different c.ne.result (option_eq (option_eq same_object) c.after.result (Some c.args.found)) c.after.result (Some c.args.found) (next_tells c.after.result (Some c.args.found)) c.ne.ensures c.if-ne.false)
    c.in_ok-hold.ensures.answered f

pub returns-then-ne-clause-answered : goal.returns-then-ne-clause-answered
returns-then-ne-clause-answered c = λ now r f. next_stops c.args.self.now c.args.section c.args.from c.args.found c.after.result c.touch.result now
    (c.after.ensures now f.moments f.tickets f.objects) (c.touch.ensures now r f) r
    (different c.ne.result (option_eq (option_eq same_object) c.after.result (Some c.args.found)) c.after.result (Some c.args.found) (next_tells c.after.result (Some c.args.found)) c.ne.ensures c.if-ne.true)
