use Rattle.world.proofs.Cited.{List, subst, Event, WorldView, memb_plans, qsbr_plans, log_of}
use Rattle.world.specs.RunOrder.{RunInOrder}
use Rattle.world.proofs.Fence.{laws_of}
use Rattle.world.proofs.RunOrder.{callbacks_in_order}
use Rattle.world.proofs.Promises.{in_worlds, log_answered}
use Rattle.world.proofs.ordering.callbacks_run_in_the_order_of_their_queue.Goals as goal

pub returns : goal.returns
returns c = λ config seq lines good. subst (λ (log : List Event). RunInOrder log) (log_answered config seq lines) (in_worlds (λ (w : WorldView). RunInOrder (log_of w)) config seq lines good
    (callbacks_in_order memb_plans (λ layout slots. laws_of (c.plan_keeps_its_laws.ensures layout slots)) config seq lines)
    (callbacks_in_order qsbr_plans (λ layout slots. laws_of (c.plan_keeps_its_laws-2.ensures layout slots)) config seq lines))
