use Rattle.live_log.proofs.Notes.{pushed_note, replaced_note}
use Rattle.live_log.proofs.laws.published_words_stay.Goals as goal

pub returns-clause-pushed : goal.returns-clause-pushed
returns-clause-pushed g c qsbr = pushed_note qsbr g.K.ChainRule.allows

pub returns-clause-replaced : goal.returns-clause-replaced
returns-clause-replaced g c qsbr = replaced_note qsbr g.K.ChainRule.allows
