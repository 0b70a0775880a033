use Rattle.schedule_text.specs.AnswerGrammar.{event_word_at}
use Rattle.schedule_text.proofs.answer_reading.event_word.Goals as goal

pub returns : goal.returns
unfolding event_word_at
returns c = c.word.ensures
