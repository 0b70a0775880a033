use Rattle.rcu_judge.proofs.Cited.{sym, subst, rules, answers_always}
use Rattle.rcu_judge.specs.declared.roster.Kept.{Kept}
use Rattle.rcu_judge.specs.Roster.{IsFoundAt}
use Rattle.rcu_judge.proofs.Places.{searched_at}
use Rattle.rcu_judge.proofs.roster.find.Goals as goal

pub returns : goal.returns
returns c =
    let found = c.binary_search_by_key.ensures in
    subst (IsFoundAt c.args.kept.now c.args.place) (sym c.ok.ensures.value)
    (searched_at c.args.came c.args.kept.now c.args.place c.binary_search_by_key.result c.requires.order found.bound (found.position (λ (k : Kept). k.place) (answers_always _ _ _ (λ f a r g called. search rules))))
