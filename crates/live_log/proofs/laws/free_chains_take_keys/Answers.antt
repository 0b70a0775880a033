use Rattle.live_log.proofs.Mapping.{free_takes}
use Rattle.live_log.proofs.laws.free_chains_take_keys.Goals as goal

pub returns : goal.returns
returns c = free_takes
