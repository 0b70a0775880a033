use Rattle.std.proofs.Common.{◌≡◌, vec_len}
use Rattle.rcu.proofs.threads.none_yet.Given as goal

abbrev pub invariant-loop : goal.invariant-loop
invariant-loop l = vec_len l.reclaimed ≡ l.counter
