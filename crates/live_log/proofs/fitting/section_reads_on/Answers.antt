use Rattle.live_log.proofs.Readings.{reads_on}
use Rattle.live_log.proofs.fitting.section_reads_on.Goals as goal

pub returns : goal.returns
returns g c qsbr old new m s x stays fit = reads_on qsbr g.K.ChainRule.allows old new m s stays fit x
