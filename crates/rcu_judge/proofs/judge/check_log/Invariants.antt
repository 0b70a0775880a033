use Rattle.std.proofs.Common.{take}
use Rattle.rcu_judge.specs.Judge.{HasTaken}
use Rattle.rcu_judge.proofs.judge.check_log.Given as goal

abbrev pub invariant-loop-event : goal.invariant-loop-event
invariant-loop-event l = HasTaken l.judge (take l.event-index l.log)
