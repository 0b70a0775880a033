use Rattle.rcu_hash.proofs.Cited.{IsLeft, list_in, ◌≡◌, ◌+◌, length, UsesUp}
use Rattle.rcu_hash.proofs.directory.DirectoryLock.retire_all.Given as goal

abbrev pub invariant-loop : goal.invariant-loop
invariant-loop g l = record {
  left : length (list_in l.chain.seat.me.0) + l.counter ≡ l.many;
  uses : UsesUp g.P.GracePlan.QSBR g.B.Site.sizes l.naming.directory g.W.Caller g.row.D.coded.code l.fn.caller l.caller l.fn.jobs.items l.jobs.items;
  chain : IsLeft l.naming.directory l.naming.first l.naming.buckets l.chain.seat.me.0;
  number : l.chain.number ≡ l.fn.chain.number;
}
