use Rattle.rcu_list.proofs.Cited.{◌≡◌, ℕ, ◌+◌, ◌≤◌, ◌%◌, List, FoldsTo, ObjectId, rank_of, record_of, log_of}
use Rattle.rcu_list.proofs.Going.{GoesAt}
use Rattle.rcu_list.proofs.view.ListView.walk.Given as goal

abbrev pub invariant-loop-passed : goal.invariant-loop-passed
invariant-loop-passed g l = record {
  reader : l.section.reader.ghost_name ≡ l.fn.section.reader.ghost_name;
  callable : goal.F-IsAlwaysCallable g l.visit;
  object : ObjectId;
  met : List (ℕ × ℕ);
  goes : GoesAt g.P.GracePlan.QSBR g.K.ChainRule.allows (g.met.K.MapRule.maps g.P.GracePlan.QSBR) (λ key. key % l.fn.buckets ≡ l.fn.bucket) l.fn.self.chain l.fn.section.reader.now.core l.section.reader.now.core object l.held.cell met;
  low : rank_of (record_of (log_of l.section.reader.now.core) object) + l._passed ≤ l.rank;
  ran : FoldsTo (λ f e h. goal.F-step g f e.0 e.1 tt h) l.fn.visit met l.visit;
}
