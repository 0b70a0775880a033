use Rattle.rcu_hash.proofs.Cited.{Each, ◌≡◌, ◌+◌, ◌≤◌, map, vec_len, vec_capacity, into_iter_items, into_iter_len, AreNoted}
use Rattle.rcu_hash.proofs.grow.leave_all.Given as goal

abbrev pub invariant-loop : goal.invariant-loop
invariant-loop g l = record {
  left : into_iter_len l.rest + l.counter ≡ l.many;
  room : (vec_len l.chains ≡ l.counter) × (l.many ≤ vec_capacity l.chains);
  wait : Each (λ b. b.naming ≡ l.naming) (into_iter_items l.rest);
  noted : AreNoted g.W.Caller g.P.GracePlan.QSBR (l.naming.directory + 1) l.fn.caller (map (λ b. b.chain.seat.me.0) l.fn.taken.items) l.caller l.counter (map (λ c. c.seat.me.0) l.chains.items) (map (λ b. b.chain.seat.me.0) (into_iter_items l.rest));
}
