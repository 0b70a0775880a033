use Rattle.robiniagolf.proofs.Cited.{◌<◌, ◌∙◌, Option, ap, sym, subst, arc_value, QsbrGrace}
use Rattle.std.proofs.Common.{Some}
use Rattle.robiniagolf.specs.Calls.{Between, QsbrIsHeldUp}
use Rattle.robiniagolf.proofs.qsbr_calls.robiniagolf_qsbr_grace_step.Goals as goal

-- the slot is one of the table that the handle had before
pub returns-in-InTheWay-clause-in_way : goal.returns-in-InTheWay-clause-in_way
returns-in-InTheWay-clause-in_way c = λ _.
    let slot = c.in-InTheWay.field-0 in let e = c.step-step.ensures in
    subst (λ (v : Option QsbrGrace). Between QsbrIsHeldUp v (Some (record { periods = c.step-step.new.self; apart = c.lend-held.result.now.apart }))) (sym (sym c.as_handle.ensures.same.1 ∙ c.lend-held.ensures.value))
    (slot, subst (λ t. slot < t.slots) (ap arc_value e.same.2) (e.in_way slot c.in-InTheWay.is).0, e.stands slot c.in-InTheWay.is)
