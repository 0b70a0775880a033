use Rattle.rcu_hash.proofs.Cited.{AreFrom, Each, IsAlone, IsEmpty, ◌≡◌, ◌≤◌, length, map, vec_capacity, HeldSome}
use Rattle.rcu_hash.proofs.making.hold_all.Given as goal

abbrev pub invariant-loop-number : goal.invariant-loop-number
invariant-loop-number g l = record {
  some : HeldSome g.W.Caller g.P.GracePlan.QSBR g.B.Site.sizes l.first l.fn.caller l.number l.caller;
  room : vec_capacity l.chains ≡ vec_capacity l.fn.chains;
  held : l.many ≤ vec_capacity l.fn.chains → (length l.chains.items ≡ l.number) × AreFrom l.first (map (λ c. c.seat.me.0) l.chains.items) × Each IsEmpty (map (λ c. c.seat.me.0) l.chains.items) × Each IsAlone (map (λ c. c.seat.me.0) l.chains.items);
}
