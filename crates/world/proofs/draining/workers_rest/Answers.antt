use Rattle.world.proofs.Fence.{laws_of}
use Rattle.world.proofs.DrainSteps.{settles}
use Rattle.world.proofs.draining.workers_rest.Goals as goal

pub returns : goal.returns
returns g c = settles _ (λ layout slots. laws_of (c.plan_keeps_its_laws.ensures layout slots))
