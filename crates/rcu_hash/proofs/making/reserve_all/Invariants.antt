use Rattle.rcu_hash.proofs.Cited.{reserved, Each, IsAlone, HasNoNote, object_in, ◌≡◌, ◌+◌, ◌≤◌, map, vec_len, vec_capacity, into_iter_items, into_iter_len, AreNoted}
use Rattle.rcu_hash.proofs.making.reserve_all.Given as goal

abbrev pub invariant-loop : goal.invariant-loop
invariant-loop g l = record {
  left : into_iter_len l.rest + l.counter ≡ l.many;
  room : (vec_len l.kept ≡ l.counter) × (l.many ≤ vec_capacity l.kept);
  wait : Each HasNoNote (map (λ c. c.seat.me.0) (into_iter_items l.rest)) × Each IsAlone (map (λ c. c.seat.me.0) (into_iter_items l.rest));
  noted : AreNoted g.W.Caller g.P.GracePlan.QSBR (reserved (object_in l.fn.owned.seat.me.0.object)) l.fn.caller (map (λ c. c.seat.me.0) l.fn.chains.items) l.caller l.counter (map (λ c. c.seat.me.0) l.kept.items) (map (λ c. c.seat.me.0) (into_iter_items l.rest));
  owned : l.owned.seat.me.0.object ≡ l.fn.owned.seat.me.0.object;
}
