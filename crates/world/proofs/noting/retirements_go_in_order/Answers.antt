use Rattle.world.proofs.Cited.{ℕ, ◌<◌, length, arith, MembPlan, QsbrPlan, BoardView, queue_of, IsReached, HasQueues, IsInRange, WorldView, OfMemb, OfQsbr, memb_plans, qsbr_plans, IsReachedWorld, fresh_world_at, world_after_lines}
use Rattle.world.specs.Retiring.{RetirementsGoInOrder}
use Rattle.world.proofs.Promises.{reached_by}
use Rattle.world.proofs.Checks.{in_order}
use Rattle.world.proofs.noting.retirements_go_in_order.Goals as goal

-- an updater's queue is there where there are queues
queue_there : {P : Type 0} (w : BoardView P) (u : ℕ) → HasQueues w → queue_of w u < length w.queues
queue_there w u queues = let some = queues.some in omega (arith, some)

in_either : ((w : BoardView MembPlan) → IsReached memb_plans w → IsInRange memb_plans w) → ((w : BoardView QsbrPlan) → IsReached qsbr_plans w → IsInRange qsbr_plans w) → (w : WorldView) (u : ℕ) → IsReachedWorld w → RetirementsGoInOrder w u
in_either memb qsbr (OfMemb w) u reached = in_order memb_plans w u (queue_there w u (memb w reached).queues)
in_either memb qsbr (OfQsbr w) u reached = in_order qsbr_plans w u (queue_there w u (qsbr w reached).queues)

pub returns : goal.returns
returns c = λ config seq lines u good.
    in_either c.numbers_stay_in_range.ensures c.numbers_stay_in_range-2.ensures (world_after_lines (fresh_world_at config seq) lines) u (reached_by config seq lines good)
