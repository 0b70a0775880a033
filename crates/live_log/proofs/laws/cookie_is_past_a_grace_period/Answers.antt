use Rattle.live_log.proofs.Periods.{is_past}
use Rattle.live_log.proofs.laws.cookie_is_past_a_grace_period.Goals as goal

pub returns : goal.returns
returns g c qsbr old log cookie run b even far = is_past qsbr g.K.ChainRule.allows old cookie even far log b run
