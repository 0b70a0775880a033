use Rattle.schedule_text.proofs.Cited.{◌<◌, List, [], length, sym, subst, rules, err_from_is_err_and, Event}
use Rattle.schedule_text.specs.AnswerPieces.{ReadSoFar}
use Rattle.schedule_text.proofs.AnswerLogs.{none_read, read_all, tells_once, broken_tells_none}
use Rattle.schedule_text.proofs.AnswerPieces.{ends, no_answers, only_memory}
use Rattle.schedule_text.proofs.answer_reading.read_answers.Goals as goal

pub returns-in_err-rest-clause-fault : goal.returns-in_err-rest-clause-fault
returns-in_err-rest-clause-fault c =
    let text = c.args.text.now in
    let start = subst (λ (es : List Event). ReadSoFar text text es 1) (sym c.new-log.ensures.items) (none_read text) in
    let p = err_from_is_err_and c.from_residual.result c.from_residual.ensures.1 in
    rw (p.1, p.2) (no_answers text c.front_answers.new.log.items c.front_answers.new.line c.in_err-rest.field-0.0 (c.in_err-rest.ensures text [] start))

pub returns-in_err-rest-clause-only : goal.returns-in_err-rest-clause-only
returns-in_err-rest-clause-only c = λ log t.
    let text = c.args.text.now in
    let start = subst (λ (es : List Event). ReadSoFar text text es 1) (sym c.new-log.ensures.items) (none_read text) in
    let p = err_from_is_err_and c.from_residual.result c.from_residual.ensures.1 in
    rw (p.1, p.2) (tt, only_memory text c.front_answers.new.log.items c.front_answers.new.line c.in_err-rest.field-0.0 (c.in_err-rest.ensures text [] start) log t)

pub returns-then-not-is_empty-clause-fault : goal.returns-then-not-is_empty-clause-fault
returns-then-not-is_empty-clause-fault c =
    let text = c.args.text.now in
    let start = subst (λ (es : List Event). ReadSoFar text text es 1) (sym c.new-log.ensures.items) (none_read text) in
    let on = c.in_ok-rest.ensures text [] start in
    let some : 0 < length c.in_ok-rest.rest.now = search rules in
    ends text c.in_ok-rest.rest.now c.front_answers.new.log.items c.front_answers.new.line on.0 on.1 some

pub returns-then-not-is_empty-clause-only : goal.returns-then-not-is_empty-clause-only
returns-then-not-is_empty-clause-only c = λ log t. absurd (broken_tells_none c.args.text.now c.front_answers.new.line _ log (returns-then-not-is_empty-clause-fault c) t)

pub returns-clause-found : goal.returns-clause-found
returns-clause-found c =
    let text = c.args.text.now in
    let start = subst (λ (es : List Event). ReadSoFar text text es 1) (sym c.new-log.ensures.items) (none_read text) in
    let on = c.in_ok-rest.ensures text [] start in
    read_all text c.front_answers.new.log.items c.front_answers.new.line c.in_ok-rest.rest.now on.0 (search rules)

pub returns-clause-only : goal.returns-clause-only
returns-clause-only c = λ log t. (tells_once c.args.text.now c.front_answers.new.log.items log (returns-clause-found c) t, tt)
