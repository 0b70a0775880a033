use Rattle.world.proofs.Cited.{◌+◌, ◌-◌, length, vec_capacity, plans_of, drain_lines, world_after, shown}
use Rattle.world.proofs.DrainSteps.{Under}
use Rattle.world.proofs.board.Board.drain.Given as goal

abbrev pub invariant-loop : goal.invariant-loop
invariant-loop g l =
    let p = g.P.GracePlan in
    let plans = plans_of p.QSBR g.P.WorldPlan.made p.action p.turn p.taken in
    Under plans (world_after plans (shown l.fn.self) (drain_lines l.worker l.steps)) (shown l.self) l.worker (l.steps - l.counter) (length (shown l.fn.self).log + (l.items + 2)) (vec_capacity l.self.kept.log)
