use Rattle.live_log.proofs.Falling.{each_falls}
use Rattle.live_log.proofs.laws.keyed_chains_fall.Goals as goal

pub returns : goal.returns
returns c = each_falls
