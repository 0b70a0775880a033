use Rattle.rcu_judge.proofs.Cited.{◌≡◌, ◌∙◌, sym, ap, subst, List, rules, filter, filter_same}
use Rattle.rcu_judge.specs.declared.roster.Kept.{Kept}
use Rattle.rcu_judge.specs.Roster.{IsKept, all_places}
use Rattle.rcu_judge.proofs.Places.{dropped, in_order_dropped, next_dropped}
use Rattle.rcu_judge.proofs.roster.Roster.drop_the_gone.Goals as goal

rest : (c : goal.After-self-2-1) → c.retain.new.self.items ≡ filter (λ (k : Kept). k.is_there) c.self.inside.kept.items
rest c = filter_same _ _ _ (λ x b f' k. search rules) _ _ c.retain.ensures.filtered

pub invariant_of-self : goal.invariant_of-self
invariant_of-self c =
    subst (λ (ks : List Kept). IsKept c.self.inside.came ks 0) (sym (rest c)) (record {
      order = in_order_dropped 0 c.self.inside.came c.self.inside.kept.items c.self.invariant.order;
      front = next_dropped c.self.inside.kept.items;
    })

pub returns : goal.returns
returns c = ap (all_places c.self.inside.came) (rest c) ∙ dropped c.self.inside.came c.self.inside.kept.items ∙ c.self.view_is
