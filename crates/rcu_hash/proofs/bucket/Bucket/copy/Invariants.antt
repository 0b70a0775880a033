use Rattle.rcu_hash.proofs.Cited.{record_of, tabled, AreRanked, cell_in, Went, Keeps, list_in, In, ◌≡◌, ℕ, map, IsCopied, Looked, []}
use Rattle.rcu_hash.proofs.bucket.Bucket.copy.Given as goal

abbrev pub invariant-loop-index : goal.invariant-loop-index
invariant-loop-index g l = record {
  copied : IsCopied (record_of l.fn.self.chain.seat.me.0.seen) (list_in l.fn.self.chain.seat.me.0) l.fn.self.naming.buckets l.number (map (λ c. (c.key, c.value)) l.fn.copied.items) l.index (map (λ c. (c.key, c.value)) l.copied.items);
  ranked : AreRanked 0 (map (λ c. c.rank) l.copied.items);
  cells : (i : ℕ) → In (map (λ c. cell_in c.owned.seat.me.0.object) l.fn.copied.items) i → In (map (λ c. cell_in c.owned.seat.me.0.object) l.copied.items) i;
  looked : Looked g.W.Caller g.B.Site.sizes (map (λ c. cell_in c.owned.seat.me.0.object) l.copied.items) [] l.fn.caller l.caller;
  walked : (l.self.naming ≡ l.fn.self.naming) × Keeps l.fn.self.chain.seat l.self.chain.seat × Went g.P.GracePlan.QSBR tabled l.fn.self.chain.seat.me.0 l.fn.self.chain.seat.me l.self.chain.seat.me × (l.self.chain.number ≡ l.fn.self.chain.number) × (l.self.chain.home.now ≡ l.fn.self.chain.home.now);
}
