use Rattle.live_log.proofs.Freeing.{left_is_freed}
use Rattle.live_log.proofs.laws.left_chains_are_freed.Goals as goal

pub returns : goal.returns
returns c = left_is_freed
