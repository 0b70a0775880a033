use Rattle.world.proofs.Fence.{laws_of}
use Rattle.world.proofs.Ranging.{runs}
use Rattle.world.proofs.laws.log_is_a_run.Goals as goal

pub returns : goal.returns
returns g c = runs _ (λ layout slots. laws_of (c.plan_keeps_its_laws.ensures layout slots))
