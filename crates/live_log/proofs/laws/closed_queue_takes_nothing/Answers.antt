use Rattle.live_log.proofs.Closed.{closed_stays}
use Rattle.live_log.proofs.laws.closed_queue_takes_nothing.Goals as goal

pub returns : goal.returns
returns g c qsbr old log q run b = closed_stays qsbr g.K.ChainRule.allows old log q b run
