use Rattle.rcu_judge.proofs.Cited.{arith, common_steps}
use Rattle.std.proofs.Common.{is_some, sym, ap}
use Rattle.rcu_judge.specs.declared.object.ObjectState.{ObjectState}
use Rattle.rcu_judge.proofs.ObjectsTables.{states_wrote, states_missed}
use Rattle.rcu_judge.proofs.states.put_stage.Goals as goal

pub returns-in_default-clause-wrote : goal.returns-in_default-clause-wrote
returns-in_default-clause-wrote c = grind (arith, common_steps, states_missed)

pub returns-clause-wrote : goal.returns-clause-wrote
returns-clause-wrote c =
    let f : ObjectState → ObjectState = λ x. record x { stage = c.args.stage } in
    let t = c.in-Some.state.now in
    states_wrote c.args.states.now (c.get_mut.follows.lender (f t)) c.args.object t f c.in-Some.ensures.value
    (((c.get_mut.follows.holds (f t)).3 (ap (λ o. is_some o) (sym c.in-Some.ensures.value))).0)
