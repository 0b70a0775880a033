use Rattle.rcu_hash.proofs.Cited.{Begins, IsLiveRun, tabled, Each, IsAlone, lengths_of, rights_of, AreAsKnown, ◌≡◌, ◌+◌, ◌≤◌, ◌++◌, map, vec_len, vec_capacity, into_iter_items, into_iter_len, Reaches}
use Rattle.rcu_hash.proofs.rights.lend_all.Given as goal

abbrev pub invariant-loop : goal.invariant-loop
invariant-loop g l = record {
  left : into_iter_len l.rest + l.counter ≡ l.many;
  room : (vec_len l.lents ≡ l.counter) × (l.many ≤ vec_capacity l.lents);
  alone : Each IsAlone (map (λ c. c.seat.me.0) (into_iter_items l.rest));
  lents : map (λ t. (t.number, t.linked)) l.lents.items ++ lengths_of (rights_of (map (λ c. c.seat.me.0) (into_iter_items l.rest))) ≡ lengths_of (rights_of (map (λ c. c.seat.me.0) l.fn.chains.items));
  chains : l.to.seat.me.0.chains ++ rights_of (map (λ c. c.seat.me.0) (into_iter_items l.rest)) ≡ l.fn.to.seat.me.0.chains ++ rights_of (map (λ c. c.seat.me.0) l.fn.chains.items);
  known : AreAsKnown l.to.seat.me.0.seen l.to.seat.me.0.chains × IsLiveRun g.P.GracePlan.QSBR tabled l.to.seat.me.0.seen;
  later : Begins l.fn.to.seat.me.0.seen l.to.seat.me.0.seen;
  reaches : Reaches l.to.seat.me.0.seen (map (λ c. c.seat.me.0) (into_iter_items l.rest)) (map (λ c. c.seat.me.0) l.fn.chains.items);
  same : (l.to.number ≡ l.fn.to.number) × (l.to.home.now ≡ l.fn.to.home.now);
}
