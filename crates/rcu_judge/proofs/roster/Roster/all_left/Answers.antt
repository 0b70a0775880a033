use Rattle.rcu_judge.proofs.Cited.{◌≡◌, ◌≤◌, ◌<◌, ◌↔◌, length, ap, sym, subst, arith, rules, List, Bool, leb-true, le-leb}
use Rattle.rcu_judge.specs.declared.roster.Kept.{Kept}
use Rattle.rcu_judge.specs.Roster.{HaveLeft, kept_at}
use Rattle.rcu_judge.proofs.Places.{none_is_older, none_is_there}
use Rattle.rcu_judge.proofs.roster.Roster.all_left.Goals as goal

pub returns-in-Some : goal.returns-in-Some
returns-in-Some c = ((λ t. told.0 (subst (λ n. c.args.moment ≤ n) (ap (λ (k : Kept). k.place) at) (leb-true c.args.moment c.in-Some.kept.now.place t))), (λ left. le-leb c.args.moment c.in-Some.kept.now.place (subst (λ n. c.args.moment ≤ n) (sym (ap (λ (k : Kept). k.place) at)) (told.1 left))))
  where
    at : c.in-Some.kept.now ≡ kept_at c.self.inside.kept.items c.self.inside.oldest
    at = grind arith

    less : c.self.inside.oldest < length c.self.inside.kept.items
    less = grind arith

    told : (c.args.moment ≤ (kept_at c.self.inside.kept.items c.self.inside.oldest).place) ↔ HaveLeft c.args.self.now c.args.moment
    told = subst (λ (bits : List Bool). (c.args.moment ≤ (kept_at c.self.inside.kept.items c.self.inside.oldest).place) ↔ HaveLeft bits c.args.moment) c.self.view_is (none_is_older c.self.inside.came c.self.inside.kept.items c.self.inside.oldest c.args.moment c.self.invariant.order c.self.invariant.front less)

pub returns-in-None : goal.returns-in-None
returns-in-None c = ((λ _. subst (λ (bits : List Bool). HaveLeft bits c.args.moment) c.self.view_is (none_is_there c.self.inside.came c.self.inside.kept.items c.self.inside.oldest c.args.moment c.self.invariant.front past)), (λ _. search rules))
  where
    past : length c.self.inside.kept.items ≤ c.self.inside.oldest
    past = grind arith
