use Rattle.live_log.proofs.Tabling.{each_falls}
use Rattle.live_log.proofs.laws.tabled_chains_fall.Goals as goal

pub returns : goal.returns
returns c = each_falls
