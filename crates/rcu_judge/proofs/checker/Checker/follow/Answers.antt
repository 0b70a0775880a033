use Rattle.rcu_judge.proofs.Cited.{ℕ, Result, IfOk, Queue, arith}
use Rattle.rcu_judge.specs.Checker.{Answers}
use Rattle.rcu_judge.proofs.checker.Checker.follow.Goals as goal

at : {T E : Type 0} (r : Result T E) (P : T → ℕ → Type 0) (n : ℕ) → IfOk r (λ x. (m : ℕ) → P x m) → IfOk r (λ x. P x n)
at r P n h = grind arith

pub returns-in-Queue-clause-answered : goal.returns-in-Queue-clause-answered
returns-in-Queue-clause-answered c = rw c.in-Queue.is (at c.queue.result (λ done n. Answers c.args.self.now c.queue.new.self (Queue c.in-Queue.object n) done) c.in-Queue.queue c.queue.ensures.answered)
