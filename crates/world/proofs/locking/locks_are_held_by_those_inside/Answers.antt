use Rattle.world.proofs.Cited.{memb_plans, qsbr_plans}
use Rattle.world.specs.Locks.{LocksAreHeldInside}
use Rattle.world.proofs.Fence.{laws_of}
use Rattle.world.proofs.LockHolders.{locks_held}
use Rattle.world.proofs.Promises.{in_worlds}
use Rattle.world.proofs.locking.locks_are_held_by_those_inside.Goals as goal

pub returns : goal.returns
returns c = λ config seq lines good. in_worlds LocksAreHeldInside config seq lines good
    (locks_held memb_plans (λ layout slots. laws_of (c.plan_keeps_its_laws.ensures layout slots)) config seq lines)
    (locks_held qsbr_plans (λ layout slots. laws_of (c.plan_keeps_its_laws-2.ensures layout slots)) config seq lines)
