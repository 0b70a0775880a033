use Rattle.rcu_hash.proofs.Cited.{AreApart, AreRanked, value_among, value_in_bucket, AreFrom, Each, cell_in, ◌≡◌, ℕ, ◌≤◌, map, vec_len, vec_capacity, Looked, []}
use Rattle.rcu_hash.proofs.growth.copy_all.Given as goal

-- the buckets up to this number are taken, and their keys copied
abbrev pub invariant-loop-number : goal.invariant-loop-number
invariant-loop-number g l = record {
  room : (vec_len l.taken ≡ l.number) × (l.fn.array.naming.buckets ≤ vec_capacity l.taken);
  from : AreFrom l.fn.array.naming.first (map (λ b. b.chain.seat.me.0) l.taken.items);
  named : Each (λ b. b.naming ≡ l.fn.array.naming) l.taken.items;
  copied : (key : ℕ) → value_among (map (λ c. (c.key, c.value)) l.copied.items) key ≡ value_in_bucket l.fn.array.naming.buckets (map (λ b. b.chain.seat.me.0) l.taken.items) key;
  apart : AreApart (map (λ c. (c.key, c.value)) l.copied.items) × AreRanked 0 (map (λ c. c.rank) l.copied.items);
  looked : Looked g.W.Caller g.B.Site.sizes (map (λ c. cell_in c.owned.seat.me.0.object) l.copied.items) [] l.fn.caller l.caller;
}
