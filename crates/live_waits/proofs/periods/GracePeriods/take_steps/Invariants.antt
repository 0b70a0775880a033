use Rattle.live_waits.proofs.Cited.{◌≡◌, true, Keeps}
use Rattle.live_waits.specs.Steps.{TookTurns}
use Rattle.live_waits.proofs.periods.GracePeriods.take_steps.Given as goal

abbrev pub invariant-loop : goal.invariant-loop
invariant-loop g l = (l.self.asks ≡ l.fn.self.asks) × (l.self.table ≡ l.fn.self.table) × (l.self.steps.going ≡ true) × Keeps l.fn.self.steps.seat l.self.steps.seat × (l.self.steps.seq ≡ l.fn.self.steps.seq)
    × TookTurns g.P.GracePlan.taken l.fn.self.steps.going l.fn.self.steps.plan l.counter l.self.steps.plan
