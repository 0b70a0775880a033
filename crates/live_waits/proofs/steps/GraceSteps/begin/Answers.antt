-- Why an ask is answered, or a grace period begins.
use Rattle.std.proofs.Common.{◌≤◌, sym, subst, inl}
use Rattle.live_waits.proofs.Answering.{knows_later, known_ended}
use Rattle.live_waits.proofs.steps.GraceSteps.begin.Goals as goal

pub returns-then-is_past-clause-ended : goal.returns-then-is_past-clause-ended
returns-then-is_past-clause-ended g c = λ shared. known_ended g.P.GracePlan.QSBR g.K.ChainRule.allows c.args.self.now.seat.me.0 c.load_seq-seq.new.seat.me.0.seen c.args.cookie c.load_seq-seq.ensures.looked.1
    (subst (λ n. c.args.cookie ≤ n) (sym c.load_seq-seq.ensures.seq) (c.is_past.ensures.0 c.if-is_past.true))

pub returns-clause-began : goal.returns-clause-began
returns-clause-began g c = λ rested going asked known.
    c.begin_now.ensures.began asked (inl (knows_later g.P.GracePlan.QSBR g.K.ChainRule.allows c.args.self.now.seat.me.0 c.load_seq-seq.new.seat.me.0.seen c.load_seq-seq.ensures.looked.1 asked known))
