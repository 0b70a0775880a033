-- What is printed of an answer is the text of its line, which tells the answer's events.
use Rattle.schedule_text.proofs.Cited.{arith, ◌≡◌, Some, None, Result, Ok, Err, refl, append_assoc, Refusal, Events, Quiet, Wait, Blocked, Idle, told}
use Rattle.world_state.specs.declared.line.Answer.{Answer}
use Rattle.schedule_text.specs.Answers.{answer_line}
use Rattle.schedule_text.specs.AnswerLines.{spelled, line_of, told_by}

pub answer_spelled : (a : Result Answer Refusal) → answer_line a ≡ spelled (line_of a)
answer_spelled (Ok (Events first None)) = refl
answer_spelled (Ok (Events first (Some second))) = simp append_assoc
answer_spelled (Ok Quiet) = refl
answer_spelled (Ok Wait) = refl
answer_spelled (Ok Blocked) = refl
answer_spelled (Ok Idle) = refl
answer_spelled (Err e) = simp append_assoc

pub answer_told : (a : Answer) → told_by (line_of (Ok a)) ≡ told a
answer_told a = grind arith
