use Rattle.live_log.proofs.Tabling.{linked_or_replaced}
use Rattle.live_log.proofs.laws.directories_leave_by_replacement.Goals as goal

pub returns : goal.returns
returns c = linked_or_replaced
