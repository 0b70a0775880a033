-- A further step leaves the period going, with one more turn taken.
use Rattle.std.proofs.Common.{◌≡◌, ◌∙◌}
use Rattle.live_waits.specs.declared.period.Progress.TheVariants.{Done}
use Rattle.live_waits.proofs.Turnings.{took_one_more}
use Rattle.live_waits.proofs.periods.GracePeriods.take_steps.Goals as goal

pub loop-preserved : goal.loop-preserved
loop-preserved g c = let not = λ (e : c.step.result ≡ Done). absurd cc in let inv = c.loop.invariant in
    let e = c.step.ensures in let goes = e.goes not in (
      inv.0,
      inv.1,
      goes.0,
      (e.seat.0.0 ∙ inv.3.0, e.seat.0.1 ∙ inv.3.1),
      goes.1 ∙ inv.4,
      took_one_more g.P.GracePlan.taken c.args.self.now.steps.going c.args.self.now.steps.plan c.loop.counter c.loop.self.steps.plan c.step.new.self.plan e.turned.word inv.5 (e.turned.moved not).0,
    )
