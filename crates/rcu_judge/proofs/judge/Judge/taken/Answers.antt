use Rattle.rcu_judge.proofs.Judging.{yes_exactly}
use Rattle.rcu_judge.proofs.judge.Judge.taken.Goals as goal

pub returns : goal.returns
returns c = λ log t run. t.counted ((yes_exactly c.args.self.now.verdict log t.judged).1 run)
