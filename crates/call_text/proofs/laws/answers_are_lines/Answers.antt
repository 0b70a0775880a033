use Rattle.std.proofs.Common.{refl}
use Rattle.call_text.specs.Answers.{answer_text}
use Rattle.call_text.proofs.OneLine.{answer_none}
use Rattle.call_text.proofs.laws.answers_are_lines.Goals as goal

pub returns : goal.returns
returns c = λ answer. (answer_text answer, refl, answer_none answer)
