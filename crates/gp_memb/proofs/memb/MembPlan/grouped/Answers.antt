use Rattle.std.proofs.Common.{sym, ap, ◌∙◌, subst, true, false}
use Rattle.gp_memb.specs.Plan.{FinishesAfter, but_slots, turn_count}
use Rattle.gp_memb.specs.Groups.{groups_of}
use Rattle.gp_memb.specs.Memb.{memb_begun, memb_action, memb_turn, memb_taken}
use Rattle.gp_memb.specs.lemmas.MembOrder.{memb_finishes}
use Rattle.gp_memb.proofs.memb.MembPlan.grouped.Goals as goal

pub returns-clause-turns : goal.returns-clause-turns
returns-clause-turns c =
    subst (λ p. FinishesAfter memb_action memb_turn memb_taken but_slots p (turn_count false (groups_of c.args.slots)))
    (sym (c.begun.ensures ∙ ap (λ scan. memb_begun c.args.layout scan.grouped scan.slots c.args.seq c.args.phase) c.new.ensures))
    (memb_finishes c.args.layout true c.args.slots c.args.seq c.args.phase)
