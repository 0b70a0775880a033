use Rattle.rcu_judge.proofs.Steps.{touch_goes, touch_stops}
use Rattle.rcu_judge.proofs.checker.Checker.touch.Goals as goal

pub returns-then-is_open : goal.returns-then-is_open
returns-then-is_open c = λ now r f. touch_goes c.args.self.now c.args.section c.args.object c.is_open.result c.is_open.ensures now f c.has.result c.has.ensures c.if-is_open.true

pub returns-else-is_open : goal.returns-else-is_open
returns-else-is_open c = λ now r f. touch_stops c.args.self.now c.args.section c.args.object c.is_open.result c.is_open.ensures now f c.if-is_open.false
