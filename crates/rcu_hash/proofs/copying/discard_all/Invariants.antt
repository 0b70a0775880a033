use Rattle.rcu_hash.proofs.Cited.{cell_in, ◌≡◌, ◌+◌, map, into_iter_items, into_iter_len, Undoes}
use Rattle.rcu_hash.proofs.copying.discard_all.Given as goal

abbrev pub invariant-loop : goal.invariant-loop
invariant-loop g l = record {
  left : into_iter_len l.rest + l.counter ≡ l.many;
  undone : Undoes g.W.Caller g.B.Site.sizes (map (λ c. cell_in c.owned.seat.me.0.object) l.fn.copied.items) (map (λ c. cell_in c.owned.seat.me.0.object) (into_iter_items l.rest)) l.fn.caller l.caller;
}
