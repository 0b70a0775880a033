use Rattle.live_write.proofs.Cited.{ℕ, Option, Keeps}
use Rattle.live_write.proofs.Walking.{Stands}
use Rattle.live_write.proofs.walk.count.Given as goal

abbrev pub invariant-loop-passed : goal.invariant-loop-passed
invariant-loop-passed g l = Keeps l.fn.seat l.seat × ((before : Option ℕ) × Stands g.P.GracePlan.QSBR g.K.ChainRule.allows l.fn.seat.me l.seat.me l.passed before l.link)
