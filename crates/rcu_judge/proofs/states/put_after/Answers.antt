use Rattle.rcu_judge.proofs.Cited.{arith, common_steps}
use Rattle.std.proofs.Common.{◌≡◌, is_some, sym, ap, subst}
use Rattle.rcu_judge.specs.declared.object.ObjectState.{ObjectState}
use Rattle.rcu_judge.specs.Objects.{states_of, written}
use Rattle.rcu_judge.proofs.ObjectsTables.{states_wrote, states_missed}
use Rattle.rcu_judge.proofs.states.put_after.Goals as goal

pub returns-in_default-get_mut-clause-wrote : goal.returns-in_default-get_mut-clause-wrote
returns-in_default-get_mut-clause-wrote c = grind (arith, common_steps, states_missed)

pub returns-clause-wrote : goal.returns-clause-wrote
returns-clause-wrote c =
    let f : ObjectState → ObjectState = λ x. record x { after = c.args.after } in
    let t = c.in-Some-get_mut.state.now in
    let m = c.get_mut.follows.lender (f t) in
    subst (λ o. states_of m ≡ written (states_of c.args.states.now) o f) (sym c.in-Some.is)
    (states_wrote c.args.states.now m c.in-Some.object t f c.in-Some-get_mut.ensures.value
    (((c.get_mut.follows.holds (f t)).3 (ap (λ o. is_some o) (sym c.in-Some-get_mut.ensures.value))).0))
