use Rattle.live_log.proofs.Numbers.{copied_bounded, copy_bounds}
use Rattle.live_log.specs.Log.{present_of}
use Rattle.live_log.proofs.laws.open_section_copied_no_later_number.Goals as goal

pub returns : goal.returns
returns g c qsbr log slot ordinal copied run at = copy_bounds qsbr (present_of log) copied (copied_bounded qsbr g.K.ChainRule.allows log slot ordinal copied run at)
