use Rattle.rcu_judge.proofs.Cited.{ℕ, refl, sym, true≢false, subst, List, [], Has, none_some}
use Rattle.rcu_judge.specs.Objects.{heads_of, states_of}
use Rattle.rcu_judge.proofs.ObjectsTables.{states_empty, heads_empty}
use Rattle.rcu_judge.proofs.ObjectsStages.{shows_nothing}
use Rattle.rcu_judge.proofs.objects.Objects.new.Goals as goal

nothing : (n : ℕ) → ¬ Has [] n
nothing n h = none_some h.last h.run

pub returns : goal.returns
returns c moments tickets = record {
  state = states_of c.new.result;
  kept = record { here = λ o n. refl; gone = λ o h. absurd (true≢false (sym h)) };
  past = λ o. ((λ h. absurd (true≢false (sym h))), (λ h. absurd (nothing o.0 (subst (λ (r : List (ℕ × ℕ)). Has r o.0) c.new-3.ensures h))));
  shows = shows_nothing (heads_of c.new-2.result) (states_of c.new.result) moments tickets (heads_empty c.new-2.result c.new-2.ensures.empty) (states_empty c.new.result c.new.ensures.empty);
}
