use Rattle.live_log.proofs.Numbers.{bounded, seq_low, seq_begins, present_begins}
use Rattle.live_log.proofs.laws.numbers_stay_in_bounds.Goals as goal

pub returns-clause-bounds : goal.returns-clause-bounds
returns-clause-bounds g c qsbr log run = (bounded qsbr g.K.ChainRule.allows log run, seq_low qsbr g.K.ChainRule.allows log run)

pub returns-clause-rising : goal.returns-clause-rising
returns-clause-rising g c qsbr old log run b = (seq_begins old log b, present_begins qsbr g.K.ChainRule.allows old log run b)
