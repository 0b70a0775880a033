use Rattle.std.proofs.Common.{sym, ap, ◌∙◌, subst, true}
use Rattle.gp_memb.specs.Plan.{FinishesAfter, but_slots, turn_count}
use Rattle.gp_memb.specs.Groups.{groups_of}
use Rattle.gp_qsbr.specs.Qsbr.{qsbr_begun, qsbr_action, qsbr_turn, qsbr_taken}
use Rattle.gp_qsbr.specs.lemmas.QsbrOrder.{qsbr_finishes}
use Rattle.gp_qsbr.proofs.qsbr.QsbrPlan.grouped.Goals as goal

pub returns-clause-turns : goal.returns-clause-turns
returns-clause-turns c =
    subst (λ p. FinishesAfter qsbr_action qsbr_turn qsbr_taken but_slots p (turn_count true (groups_of c.args.slots)))
    (sym (c.begun.ensures ∙ ap (λ scan. qsbr_begun scan.grouped scan.slots c.args.seq c.args.num) c.new.ensures))
    (qsbr_finishes true c.args.slots c.args.seq c.args.num)
