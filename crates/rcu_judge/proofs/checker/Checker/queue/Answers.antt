use Rattle.rcu_judge.proofs.Steps.{queue_goes}
use Rattle.rcu_judge.proofs.checker.Checker.queue.Goals as goal

pub returns-clause-answered : goal.returns-clause-answered
returns-clause-answered c = λ queue now r f.
    queue_goes c.args.self.now c.queue.new.self c.arrive.new.self c.args.object queue c.in_ok-ticket.ticket c.queue.result
    c.in_ok-ticket.ensures.place c.in_ok-ticket.ensures.came c.queue.ensures now f
