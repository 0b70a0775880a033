use Rattle.rcu_hash.proofs.Cited.{IsBucket, Each, ◌≡◌, ◌+◌, ◌≤◌, map, vec_len, vec_capacity, into_iter_items, into_iter_len}
use Rattle.rcu_hash.proofs.making.into_buckets.Given as goal

abbrev pub invariant-loop : goal.invariant-loop
invariant-loop g l = record {
  left : into_iter_len l.rest + l.counter ≡ l.many;
  room : (vec_len l.buckets ≡ l.counter) × (l.many ≤ vec_capacity l.buckets);
  wait : Each (IsBucket l.naming) (map (λ c. c.seat.me.0) (into_iter_items l.rest));
}
