use Rattle.schedule_text.proofs.Cited.{ℕ, List, ◌++◌, length, Event}
use Rattle.schedule_text.specs.AnswerPieces.{ReadSoFar}
use Rattle.schedule_text.proofs.answer_reading.front_answers.Given as goal

abbrev pub invariant-loop-answer : goal.invariant-loop-answer
invariant-loop-answer l = (all : List ℕ) (earlier : List Event) → ReadSoFar all l.text (earlier ++ l.initial.log.items) l.initial.line → ReadSoFar all l.rest (earlier ++ l.log.items) l.line

abbrev pub decreases-loop-answer : goal.decreases-loop-answer
decreases-loop-answer l = length l.rest
