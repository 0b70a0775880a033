use Rattle.live_log.proofs.Tabling.{left_stays}
use Rattle.live_log.proofs.laws.left_chains_stay.Goals as goal

pub returns : goal.returns
returns c = left_stays
