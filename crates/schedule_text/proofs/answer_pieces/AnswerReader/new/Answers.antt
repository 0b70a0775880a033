use Rattle.std.proofs.Common.{[]}
use Rattle.schedule_text.proofs.AnswerTexts.{no_answer}
use Rattle.schedule_text.proofs.AnswerLogs.{none_read}
use Rattle.schedule_text.proofs.AnswerPieces.{goes_on_to_a_line}
use Rattle.schedule_text.proofs.answer_pieces.AnswerReader.new.Goals as goal

pub returns : goal.returns
returns c = record { read = rw c.new.ensures.items (none_read []); partial = rw c.new.ensures.items (goes_on_to_a_line [] no_answer) }
