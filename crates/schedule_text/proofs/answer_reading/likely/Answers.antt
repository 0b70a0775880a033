use Rattle.schedule_text.specs.AnswerGrammar.{answer_word_at}
use Rattle.schedule_text.proofs.answer_reading.likely.Goals as goal

pub returns : goal.returns
unfolding answer_word_at
returns c = c.likely_word.ensures
