use Rattle.rcu_hash.proofs.Cited.{tabled, AnswersThrough, log_of, Looks, ◌≡◌, ℕ, List, FoldsTo, WentThrough}
use Rattle.rcu_hash.proofs.view.TableView.walk.Given as goal

abbrev pub invariant-loop-number : goal.invariant-loop-number
invariant-loop-number g l = record {
  reader : l.section.reader.ghost_name ≡ l.fn.section.reader.ghost_name;
  looked : Looks g.P.GracePlan.QSBR tabled l.fn.section.reader.now.core l.section.reader.now.core;
  callable : goal.F-IsAlwaysCallable g l.visit;
  met : List (ℕ × ℕ);
  went : WentThrough l.buckets (λ new key answer. AnswersThrough (log_of l.fn.section.reader.now.core) (log_of l.fn.section.reader.now.core) new l.fn.self.chains l.fn.self.directory key answer) (log_of l.section.reader.now.core) l.number met;
  ran : FoldsTo (λ f e h. goal.F-step g f e.0 e.1 tt h) l.fn.visit met l.visit;
}
