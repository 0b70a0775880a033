use Rattle.std.proofs.Common.{◌+◌, arith}
use Rattle.live_waits.proofs.Answering.{bound_number, bound_of, bound_phase}
use Rattle.live_waits.proofs.writer.GraceWriter.run.Goals as goal

pub grace_period-self-requires-clause-right : goal.grace_period-self-requires-clause-right
grace_period-self-requires-clause-right g c = let now = c.args.self.now in let b = now.bounds in
    (now.rests.0, b.0, c.requires.low, bound_of g.P.GracePlan.QSBR now.seq now.present b.1 b.2)

pub invariant_of-self-clause-bounds : goal.invariant_of-self-clause-bounds
invariant_of-self-clause-bounds g c = let p = g.P.GracePlan in let now = c.args.self.now in let done = c.grace_period-self in
    let even = now.bounds.0 in
    (omega arith, bound_phase p.QSBR (now.seq + 2) done.result done.ensures.right.1, bound_number p.QSBR (now.seq + 2) done.result done.ensures.right.1)
