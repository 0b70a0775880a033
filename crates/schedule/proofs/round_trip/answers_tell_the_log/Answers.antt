use Rattle.schedule.proofs.Cited.{ℕ, List, [], ◌++◌, sym, ap, ◌∙◌, subst, append-nil, Event, WorldView, fresh_world, world_after_lines, log_of, counts_of, end_line, TellsLog}
use Rattle.schedule.specs.Printed.{answers_of}
use Rattle.schedule.proofs.Starting.{begins_at_zero}
use Rattle.schedule.proofs.RoundTrip.{lines_in, tells_answers, tells_all}
use Rattle.schedule.proofs.round_trip.answers_tell_the_log.Goals as goal

pub returns-clause-whole : goal.returns-clause-whole
returns-clause-whole c = λ text printed counts short good.
    let w = fresh_world good.config in
    let events = c.every_schedule_reclaims_safely.ensures.events good.config 0 good.lines in
    let numbered = c.numbers_count_lines.ensures good.config 0 good.lines (begins_at_zero good.config good.schedule.supported) in
    let long = lines_in w good.lines (end_line counts) printed good.answers short in
    subst (λ (t : List ℕ). TellsLog t (log_of (world_after_lines w good.lines))) (sym good.answers)
    (subst (λ (log : List Event). TellsLog (answers_of w good.lines ++ end_line counts) log) (sym events)
    (tells_all w good.lines long numbered counts (good.counted ∙ ap counts_of events)))

pub returns-clause-broken_off : goal.returns-clause-broken_off
returns-clause-broken_off c = λ text printed line column short bad.
    let w = fresh_world bad.config in
    let events = c.every_schedule_reclaims_safely.ensures.events bad.config 0 bad.lines in
    let numbered = c.numbers_count_lines.ensures bad.config 0 bad.lines (begins_at_zero bad.config bad.schedule.supported) in
    let long = lines_in w bad.lines [] printed (bad.answers ∙ sym (append-nil (answers_of w bad.lines))) short in
    subst (λ (t : List ℕ). TellsLog t (log_of (world_after_lines w bad.lines))) (sym bad.answers)
    (subst (λ (log : List Event). TellsLog (answers_of w bad.lines) log) (sym events) (tells_answers w bad.lines long numbered))

pub returns-clause-so_far : goal.returns-clause-so_far
returns-clause-so_far c = λ world line held fed printed short is.
    let w = fresh_world is.config in
    let events = c.every_schedule_reclaims_safely.ensures.events is.config 0 is.lines in
    let numbered = c.numbers_count_lines.ensures is.config 0 is.lines (begins_at_zero is.config is.schedule.supported) in
    let long = lines_in w is.lines [] printed (is.answers ∙ sym (append-nil (answers_of w is.lines))) short in
    subst (λ (v : WorldView). TellsLog printed (log_of v)) (sym is.now)
    (subst (λ (t : List ℕ). TellsLog t (log_of (world_after_lines w is.lines))) (sym is.answers)
    (subst (λ (log : List Event). TellsLog (answers_of w is.lines) log) (sym events) (tells_answers w is.lines long numbered)))
