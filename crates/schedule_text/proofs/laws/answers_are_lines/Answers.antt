use Rattle.schedule_text.proofs.Spelled.{answer_spelled, answer_told}
use Rattle.schedule_text.proofs.laws.answers_are_lines.Goals as goal

pub returns-clause-spelled : goal.returns-clause-spelled
returns-clause-spelled c = answer_spelled

pub returns-clause-told : goal.returns-clause-told
returns-clause-told c = answer_told
