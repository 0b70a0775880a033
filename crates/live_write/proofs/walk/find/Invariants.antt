use Rattle.live_words.specs.live_rule.Steps.{Keeps}
use Rattle.live_write.proofs.Walking.{Stands}
use Rattle.live_write.proofs.walk.find.Given as goal

abbrev pub invariant-loop-passed : goal.invariant-loop-passed
invariant-loop-passed g l = Keeps l.fn.seat l.seat × Stands g.P.GracePlan.QSBR g.K.ChainRule.allows l.fn.seat.me l.seat.me l._passed l.before l.link
