use Rattle.schedule.proofs.Cited.{subst, [], IsSafeLog}
use Rattle.schedule.proofs.Safety.{whole_safe, begun_safe, so_far_safe}
use Rattle.schedule.proofs.Starting.{begins_at_zero}
use Rattle.schedule.proofs.laws.each_text_reclaims_safely.Goals as goal

pub returns-clause-whole : goal.returns-clause-whole
returns-clause-whole c =
    let law = c.every_schedule_reclaims_safely.ensures in
    whole_safe (c.every_run_is_safe.ensures [] tt)
    (λ config lines good. subst IsSafeLog (law.events config 0 lines) (law.safe config 0 lines (begins_at_zero config good)))
    (λ config lines good. c.numbers_count_lines.ensures config 0 lines (begins_at_zero config good))
    (λ config lines. law.events config 0 lines)

pub returns-clause-begun : goal.returns-clause-begun
returns-clause-begun c =
    let law = c.every_schedule_reclaims_safely.ensures in
    begun_safe (c.every_run_is_safe.ensures [] tt)
    (λ config lines good. subst IsSafeLog (law.events config 0 lines) (law.safe config 0 lines (begins_at_zero config good)))
    (λ config lines good. c.numbers_count_lines.ensures config 0 lines (begins_at_zero config good))
    (λ config lines. law.events config 0 lines)

pub returns-clause-so_far : goal.returns-clause-so_far
returns-clause-so_far c =
    let law = c.every_schedule_reclaims_safely.ensures in
    so_far_safe (c.every_run_is_safe.ensures [] tt)
    (λ config lines good. subst IsSafeLog (law.events config 0 lines) (law.safe config 0 lines (begins_at_zero config good)))
    (λ config lines good. c.numbers_count_lines.ensures config 0 lines (begins_at_zero config good))
    (λ config lines. law.events config 0 lines)
