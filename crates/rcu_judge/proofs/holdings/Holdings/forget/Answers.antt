use Rattle.rcu_judge.proofs.HoldingLemmas.{forgets}
use Rattle.rcu_judge.proofs.holdings.Holdings.forget.Goals as goal

pub returns : goal.returns
returns c = forgets c.args.self.now.got c.remove.new.self c.args.section (λ q. c.remove.ensures.updates.0 q)
