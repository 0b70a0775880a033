use Rattle.rcu_hash.proofs.Cited.{◌≡◌, ◌+◌, into_iter_len}
use Rattle.rcu_hash.proofs.growth.restock.Given as goal

abbrev pub invariant-loop-number : goal.invariant-loop-number
invariant-loop-number g l = into_iter_len l.rest + l.number ≡ l.many
