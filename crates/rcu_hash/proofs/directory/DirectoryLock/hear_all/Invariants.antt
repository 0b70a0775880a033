use Rattle.rcu_hash.proofs.Cited.{Begins, tabled, During, LinksStill, IsLeft, Each, lengths_of, rights_of, OnlyHears, ◌≡◌, length, map, take}
use Rattle.rcu_hash.proofs.directory.DirectoryLock.hear_all.Given as goal

abbrev pub invariant-loop-index : goal.invariant-loop-index
invariant-loop-index g l = record {
  still : Each (λ p. During g.W.Caller g.P.GracePlan.QSBR tabled l.fn.caller l.caller (LinksStill l.naming.directory p)) (take l.index (lengths_of (rights_of (map (λ c. c.seat.me.0) l.fn.chains.items))));
  chains : Each (IsLeft l.naming.directory l.naming.first l.naming.buckets) (map (λ c. c.seat.me.0) l.chains.items);
  rights : rights_of (map (λ c. c.seat.me.0) l.chains.items) ≡ rights_of (map (λ c. c.seat.me.0) l.fn.chains.items);
  many : length l.chains.items ≡ length l.fn.chains.items;
  heard : Begins (g.W.Caller.heard l.fn.caller) (g.W.Caller.heard l.caller);
  same : OnlyHears g.W.Caller l.fn.caller l.caller;
}
