use Rattle.call_text.specs.Grammar.{verb_at}
use Rattle.call_text.proofs.reading.front_verb.Goals as goal

pub returns-in-Reader : goal.returns-in-Reader
unfolding verb_at
returns-in-Reader c = rw c.in-Reader.is c.word.ensures

pub returns-in-Updater : goal.returns-in-Updater
unfolding verb_at
returns-in-Updater c = rw c.in-Updater.is c.word-in-Updater.ensures
