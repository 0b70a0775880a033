use Rattle.schedule_text.specs.AnswerGrammar.{answer_word_at}
use Rattle.schedule_text.proofs.answer_reading.answer_word.Goals as goal

pub returns-in_default : goal.returns-in_default
unfolding answer_word_at
returns-in_default c = c.word.ensures
