use Rattle.rcu_judge.proofs.Cited.{◌≡◌, ◌∙◌, on_ok_weaker, arith, common_steps}
use Rattle.rcu_judge.specs.declared.object.Stage.TheVariants.{Linked, Cut}
use Rattle.rcu_judge.specs.Objects.{states_of, written, entered, linked_states, marked_states, left_states}
use Rattle.rcu_judge.proofs.ObjectsTables.{never_err}
use Rattle.rcu_judge.proofs.objects.Objects.splice.Goals as goal

pub returns-clause-states : goal.returns-clause-states
returns-clause-states c =
    let s = c.args.splice in
    let old = states_of c.args.self.now.known in
    let e1 : states_of c.put_after.new.states ≡ linked_states old s = c.put_after.ensures.wrote ∙ (λ i. written (c.in_ok-make_room.ensures.same i) s.before (λ x. record x { after = c.value-2.ensures i })) in
    let e2 : states_of c.put_before.new.states ≡ marked_states (linked_states old s) s = c.put_before.ensures.wrote ∙ (λ i. written (e1 i) s.after (λ x. record x { before = c.mark.ensures i })) in
    let e3 : states_of c.leave.new.states ≡ left_states (marked_states (linked_states old s) s) s = c.leave.ensures.wrote ∙ (λ i. written (e2 i) s.leaves (λ x. record x { stage = Cut })) in
    on_ok_weaker c.enter.result (λ e. e ∙ (λ i. entered (e3 i) s.enters (record { chain = s.chain; before = s.before; after = s.after; stage = Linked }))) c.enter.ensures.entered

pub returns-clause-refused : goal.returns-clause-refused
returns-clause-refused c = grind (arith, common_steps, never_err)
