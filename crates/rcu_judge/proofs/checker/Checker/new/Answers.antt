use Rattle.rcu_judge.proofs.Steps.{follows_start}
use Rattle.rcu_judge.proofs.checker.Checker.new.Goals as goal

pub returns : goal.returns
returns c = follows_start c.new.result c.new-2.result c.new-3.result c.new-4.result c.new-5.result c.new-6.result
    c.new.ensures c.new-2.ensures c.new-3.ensures c.new-4.ensures c.new-5.ensures c.new-6.ensures
