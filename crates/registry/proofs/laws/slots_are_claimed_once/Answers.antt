use Rattle.registry.proofs.Histories.{claims_once}
use Rattle.registry.proofs.laws.slots_are_claimed_once.Goals as goal

pub returns : goal.returns
returns c = claims_once
