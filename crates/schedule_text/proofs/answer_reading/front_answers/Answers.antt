use Rattle.std.proofs.Common.{◌≡◌, ◌<◌, ◌++◌, length, rules}
use Rattle.schedule_text.specs.AnswerLines.{AnswerLineText}
use Rattle.schedule_text.specs.AnswerGrammar.{answer_line_at}
use Rattle.schedule_text.proofs.Bytes.{some_read}
use Rattle.schedule_text.proofs.Columns.{bad_within}
use Rattle.schedule_text.proofs.AnswerTexts.{answer_reads, no_answer}
use Rattle.schedule_text.proofs.AnswerPieces.{goes_on, goes_on_at, stops_at}
use Rattle.schedule_text.proofs.answer_reading.front_answers.Goals as goal

pub loop-answer-smaller : goal.loop-answer-smaller
loop-answer-smaller c = some_read AnswerLineText answer_line_at answer_reads no_answer c.loop-answer.rest.now c.in-Ok.answer c.in-Ok.after.now c.in-Ok.ensures

pub loop-answer-preserved : goal.loop-answer-preserved
loop-answer-preserved c = λ all earlier r.
    goes_on all c.loop-answer.rest.now c.in-Ok.after.now earlier c.loop-answer.log.items c.note.new.log.items c.loop-answer.line c.saturating_add.result c.in-Ok.answer (c.loop-answer.invariant all earlier r) c.in-Ok.ensures c.in_ok-note-in-Ok.ensures.noted c.saturating_add.ensures

pub column_of-column-requires : goal.column_of-column-requires
column_of-column-requires c = bad_within AnswerLineText answer_line_at answer_reads c.loop-answer.rest.now c.in-Err.bad.now c.in-Err.ensures

pub returns-then-is_empty : goal.returns-then-is_empty
returns-then-is_empty c = λ all earlier r.
    let nil : length c.in-Err.bad.now ≡ 0 = search rules in
    (c.loop-answer.invariant all earlier r, goes_on_at c.loop-answer.rest.now c.in-Err.bad.now c.in-Err.ensures nil)

pub returns-in-Err : goal.returns-in-Err
returns-in-Err c = λ all earlier r.
    let some : 0 < length c.in-Err.bad.now = search rules in
    stops_at all c.loop-answer.rest.now c.in-Err.bad.now (earlier ++ c.loop-answer.log.items) c.loop-answer.line c.column_of-column.result (c.loop-answer.invariant all earlier r) c.in-Err.ensures some c.column_of-column.ensures
