use Rattle.rcu_hash.proofs.Cited.{Each, HasSeen, IsAlone, IsRunIn, lengths_of, rights_of, lent_chains, own_in, ◌≡◌, ◌+◌, ◌≤◌, ◌++◌, length, map, take, drop, vec_len, vec_capacity, into_iter_items, into_iter_len}
use Rattle.rcu_hash.proofs.rights.take_all_back.Given as goal

abbrev pub invariant-loop : goal.invariant-loop
invariant-loop g l = record {
  left : into_iter_len l.rest + l.counter ≡ l.many;
  room : (vec_len l.chains ≡ l.counter) × (l.many ≤ vec_capacity l.chains);
  lents : map (λ t. (t.number, t.linked)) (into_iter_items l.rest) ≡ lengths_of (take (length (into_iter_items l.rest)) (lent_chains l.from.seat.me.0.chains));
  chains : rights_of (map (λ c. c.seat.me.0) l.chains.items) ++ take (length (into_iter_items l.rest)) (lent_chains l.from.seat.me.0.chains) ≡ take (length l.fn.lents.items) (lent_chains l.fn.from.seat.me.0.chains);
  others : drop (length (into_iter_items l.rest)) (lent_chains l.from.seat.me.0.chains) ≡ drop (length l.fn.lents.items) (lent_chains l.fn.from.seat.me.0.chains);
  own : own_in l.from.seat.me.0.chains ≡ own_in l.fn.from.seat.me.0.chains;
  alone : Each IsAlone (map (λ c. c.seat.me.0) l.chains.items);
  seen : Each (HasSeen l.fn.from.seat.me.0.seen) (map (λ c. c.seat.me.0) l.chains.items);
  runs : Each (IsRunIn g.P.GracePlan.QSBR) (map (λ c. c.seat.me.0) l.chains.items);
  same : (l.from.seat.me.0.seen ≡ l.fn.from.seat.me.0.seen) × (l.from.number ≡ l.fn.from.number) × (l.from.home.now ≡ l.fn.from.home.now);
}
