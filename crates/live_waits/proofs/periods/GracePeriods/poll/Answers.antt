use Rattle.std.proofs.Common.{◌≤◌, sym, subst}
use Rattle.live_waits.proofs.Answering.{known_ended}
use Rattle.live_waits.proofs.periods.GracePeriods.poll.Goals as goal

pub returns-clause-ended : goal.returns-clause-ended
returns-clause-ended g c = λ past. known_ended g.P.GracePlan.QSBR g.K.ChainRule.allows c.args.self.now.asks.me.0 c.load_seq-seq.new.seat.me.0.seen c.args.cookie c.load_seq-seq.ensures.looked.1
    (subst (λ n. c.args.cookie ≤ n) (sym c.load_seq-seq.ensures.seq) (c.is_past.ensures.0 past))
