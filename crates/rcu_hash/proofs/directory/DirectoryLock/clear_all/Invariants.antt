use Rattle.rcu_hash.proofs.Cited.{chains_in, IsLeft, WasCleared, AreFrom, Each, In, ◌≡◌, ℕ, ◌+◌, ◌⊎◌, map, vec_len, UsesUp}
use Rattle.rcu_hash.proofs.directory.DirectoryLock.clear_all.Given as goal

abbrev pub invariant-loop : goal.invariant-loop
invariant-loop g l = record {
  left : vec_len l.chains + l.counter ≡ l.many;
  uses : UsesUp g.P.GracePlan.QSBR g.B.Site.sizes l.naming.directory g.W.Caller g.row.D.coded.code l.fn.caller l.caller l.fn.jobs.items l.jobs.items;
  chains : Each (IsLeft l.naming.directory l.naming.first l.naming.buckets) (map (λ c. c.seat.me.0) l.chains.items);
  cleared : (c : ℕ) → In (chains_in (map (λ c. c.seat.me.0) l.fn.chains.items)) c → WasCleared (g.W.Caller.heard l.fn.caller) c (g.W.Caller.heard l.caller) ⊎ In (chains_in (map (λ c. c.seat.me.0) l.chains.items)) c;
  row : (first : ℕ) → AreFrom first (map (λ c. c.seat.me.0) l.fn.chains.items) → AreFrom first (map (λ c. c.seat.me.0) l.chains.items);
}
