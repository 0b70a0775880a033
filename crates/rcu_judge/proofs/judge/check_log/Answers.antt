use Rattle.rcu_judge.proofs.Cited.{arith, sym, subst, take, common_steps, take_more, Open}
use Rattle.rcu_judge.specs.Judge.{HasTaken}
use Rattle.rcu_judge.specs.Verdict.{Judges}
use Rattle.rcu_judge.proofs.Judging.{yes_exactly}
use Rattle.rcu_judge.proofs.judge.check_log.Goals as goal

pub loop-event-preserved : goal.loop-event-preserved
loop-event-preserved c =
    let i = c.loop-event.event-index in
    subst (HasTaken c.take.new.self) (sym (take_more c.args.log.now i (Open (record { reader = 0; ordinal = 0 })) c.loop-event-test.true)) (c.in-Ok.ensures.taken (take i c.args.log.now) c.loop-event.invariant)

pub returns-clause-exactly : goal.returns-clause-exactly
returns-clause-exactly c =
    let j : Judges c.verdict.result c.args.log.now = grind (arith, common_steps) in
    yes_exactly c.verdict.result c.args.log.now j
