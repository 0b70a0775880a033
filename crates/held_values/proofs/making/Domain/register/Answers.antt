use Rattle.std.proofs.Common.{◌++◌, ap, subst, ◌∙◌}
use Rattle.std.specs.Arc.{arc_value}
use Rattle.atomic_table.specs.Table.{Me}
use Rattle.live_log.specs.declared.callback_id.CallbackId.{CallbackId}
use Rattle.live_words.specs.live_rule.declared.view.View.{View}
use Rattle.live_read.specs.Registering.{FindsAllClaimed}
use Rattle.held_values.proofs.Registering.{missed}
use Rattle.held_values.proofs.making.Domain.register.Goals as goal

-- the words were found in the table of which another owner was made
pub returns-in-Err-clause-no_slot : goal.returns-in-Err-clause-no_slot
returns-in-Err-clause-no_slot g c = λ _.
    let old = c.args.self.now.seat.me.0.looks in let new = c.learn.new.seat.me.0.looks in
    let found = missed (arc_value c.in-Ok.own).words.shared.key c.tell-seat.result.me c.in-Err.seat.me old new (ap (λ (m : Me CallbackId View). m.0.looks) c.tell-seat.ensures.4) c.in-Err.ensures.refused
    (ap (λ (m : Me CallbackId View). m.0.looks) c.learn.ensures.2 ∙ ap (λ (m : Me CallbackId View). c.in-Err.seat.me.0.looks ++ m.0.looks) c.tell-seat.ensures.2) in
    subst (λ t. FindsAllClaimed t.words.shared.key old new) c.in-Ok.ensures found
