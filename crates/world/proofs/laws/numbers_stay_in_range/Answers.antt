use Rattle.world.proofs.Fence.{laws_of}
use Rattle.world.proofs.Ranging.{ranges}
use Rattle.world.proofs.laws.numbers_stay_in_range.Goals as goal

pub returns : goal.returns
returns g c = ranges _ (λ layout slots. laws_of (c.plan_keeps_its_laws.ensures layout slots))
