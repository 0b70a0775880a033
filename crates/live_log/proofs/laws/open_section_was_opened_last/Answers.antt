use Rattle.live_log.proofs.Machine.{is_open}
use Rattle.live_log.proofs.laws.open_section_was_opened_last.Goals as goal

pub returns : goal.returns
returns g c qsbr = is_open qsbr g.K.ChainRule.allows
