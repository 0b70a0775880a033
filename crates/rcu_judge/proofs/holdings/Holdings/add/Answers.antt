use Rattle.rcu_judge.proofs.Cited.{cond, ◌||◌, true, ap, sym, is_some, Some, refl, ◌∙◌, list_any, get, same_section, same_object}
use Rattle.rcu_judge.specs.declared.holdings.Got.{Got}
use Rattle.rcu_judge.specs.Holdings.{objects_in}
use Rattle.rcu_judge.proofs.HoldingLemmas.{gets, stays, newest_moves, newest_again, newest_alone, not_apart}
use Rattle.rcu_judge.proofs.ObjectsTables.{on_err}
use Rattle.rcu_judge.proofs.holdings.Holdings.add.Goals as goal

pub returns-in_ok-insert-clause-got : goal.returns-in_ok-insert-clause-got
returns-in_ok-insert-clause-got c =
    let o = c.args.object in
    let was = c.in-Some.got.now in
    let now : Got = record { newest = o; older = c.insert.new.self } in
    gets c.args.self.now.got (c.get_mut.follows.lender now) c.args.section o now
    (((c.get_mut.follows.holds now).3 (ap (λ x. is_some x) (sym c.in-Some.ensures.value))).0)
    (λ p.
    newest_moves o was.newest p (list_any (same_object p) was.older.keys) (list_any (same_object p) now.older.keys) (c.in_ok-insert.ensures.updates.0 p)
    ∙ ap (λ x. cond (same_object o p) true (list_any (same_object p) (objects_in x))) c.in-Some.ensures.value)

pub returns-in_err-insert-clause-refused : goal.returns-in_err-insert-clause-refused
returns-in_err-insert-clause-refused c =
    let was = c.in-Some.got.now in
    let now : Got = record { newest = was.newest; older = c.insert.new.self } in
    on_err c.from_residual.result
    (stays c.args.self.now.got (c.get_mut.follows.lender now) c.args.section was now (sym c.in-Some.ensures.value) (refl, c.in_err-insert.ensures.err)
    (((c.get_mut.follows.holds now).3 (ap (λ x. is_some x) (sym c.in-Some.ensures.value))).0))

pub returns-else-ne-clause-got : goal.returns-else-ne-clause-got
returns-else-ne-clause-got c =
    let o = c.args.object in
    let was = c.in-Some.got.now in
    gets c.args.self.now.got (c.get_mut.follows.lender was) c.args.section o was
    (((c.get_mut.follows.holds was).3 (ap (λ x. is_some x) (sym c.in-Some.ensures.value))).0)
    (λ p. newest_again o was.newest p (list_any (same_object p) was.older.keys) (not_apart was.newest o c.if-ne.ensures) ∙ ap (λ x. cond (same_object o p) true (list_any (same_object p) (objects_in x))) c.in-Some.ensures.value)

pub returns-clause-got : goal.returns-clause-got
returns-clause-got c =
    let o = c.args.object in
    let now : Got = record { newest = o; older = c.new.result } in
    gets c.args.self.now.got c.insert-2.new.self c.args.section o now
    (λ q. c.in_ok-insert-2.ensures.updates.0 q ∙ ap (λ m. cond (same_section c.args.section q) (Some now) (get same_section m q)) c.get_mut.follows.holds-at-none)
    (λ p. ap (λ ks. same_object p o || list_any (same_object p) ks) c.new.ensures.empty ∙ newest_alone o p ∙ ap (λ x. cond (same_object o p) true (list_any (same_object p) (objects_in x))) c.in_default.ensures.value)
