use Rattle.live_log.proofs.Linked.{protected}
use Rattle.live_log.proofs.laws.linked_is_not_reclaimed.Goals as goal

pub returns : goal.returns
returns g c qsbr = protected qsbr g.K.ChainRule.allows
