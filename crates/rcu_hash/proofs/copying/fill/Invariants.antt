use Rattle.rcu_hash.proofs.Cited.{Begins, tabled, AreRanked, value_among, CopiesAll, Writes, AreFrom, Each, value_at, OnlyMakesMany, ◌≡◌, ℕ, ◌+◌, ◌%◌, ◌++◌, List, length, map, slice_get, vec_len, into_iter_items, into_iter_len, Holds}
use Rattle.rcu_hash.proofs.copying.fill.Given as goal

-- some entries are in their chains, and the others follow
abbrev pub invariant-loop : goal.invariant-loop
invariant-loop g l = record {
  left : into_iter_len l.rest + l.counter ≡ l.many;
  many : vec_len l.chains ≡ l.buckets;
  done : List (ℕ × ℕ);
  counted : length done ≡ l.counter;
  split : map (λ c. (c.key, c.value)) l.fn.copied.items ≡ done ++ map (λ c. (c.key, c.value)) (into_iter_items l.rest);
  ranked : AreRanked l.counter (map (λ c. c.rank) (into_iter_items l.rest));
  holds : Each (Holds l.counter) (map (λ c. c.seat.me.0) l.chains.items);
  values : (key : ℕ) → value_at (slice_get (map (λ c. c.seat.me.0) l.chains.items) (key % l.buckets)) key ≡ value_among done key;
  filled : (first : ℕ) → AreFrom first (map (λ c. c.seat.me.0) l.fn.chains.items) → CopiesAll (Writes g.P.GracePlan.QSBR tabled (g.W.Caller.seen l.fn.caller)) first l.buckets 0 (g.W.Caller.heard l.fn.caller) done (g.W.Caller.heard l.caller);
  numbers : map (λ c. c.number) l.chains.items ≡ map (λ c. c.number) l.fn.chains.items;
  heard : Begins (g.W.Caller.heard l.fn.caller) (g.W.Caller.heard l.caller);
  same : OnlyMakesMany g.W.Caller l.fn.caller l.caller l.counter;
}
