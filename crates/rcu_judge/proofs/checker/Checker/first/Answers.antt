use Rattle.rcu_judge.proofs.Cited.{option_eq, same_object}
use Rattle.rcu_judge.proofs.Steps.{first_goes, first_stops, found_tells, not_different}
use Rattle.rcu_judge.proofs.checker.Checker.first.Goals as goal

pub returns-clause-answered : goal.returns-clause-answered
returns-clause-answered c = λ now r f. first_goes c.args.self.now c.hold.new.self c.args.section c.args.chain c.args.found c.first.result c.is_open.result
    c.is_open.ensures c.if-not-is_open.false c.first.ensures.first
    (not_different c.ne.result (option_eq same_object c.first.result c.args.found) c.first.result c.args.found (found_tells c.first.result c.args.found) c.ne.ensures c.if-ne.false)
    c.in_ok-hold.ensures.answered now f

pub returns-then-not-is_open-clause-answered : goal.returns-then-not-is_open-clause-answered
returns-then-not-is_open-clause-answered c = λ now r f. first_stops c.args.self.now c.args.section c.args.chain c.args.found c.is_open.result c.is_open.ensures c.if-not-is_open.true now f
