use Rattle.live_log.proofs.Freeing.{named_stays_free}
use Rattle.live_log.proofs.laws.named_chains_stay_free.Goals as goal

pub returns : goal.returns
returns c = named_stays_free
