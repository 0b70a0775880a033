use Rattle.live_write.proofs.Cited.{ap, sym, subst, Log, Begins, begins_trans, IsAfter}
use Rattle.live_write.proofs.chain.Chain.release.Goals as goal

pub returns-clause-heard : goal.returns-clause-heard
returns-clause-heard g c =
    let told = c.hear_caller.ensures.told in let freed = c.free_chain.ensures.freed.2 in
    let seen : Log = g.W.Caller.seen c.args.caller.now in let heard : Log = g.W.Caller.heard c.args.caller.now in let own : Log = c.args.self.seat.me.0.seen in
    let mid : Log = c.hear_caller.new.seat.me.0.seen in let log : Log = c.free_chain.new.seat.me.0.seen in
    let on : Begins mid log = subst (λ (l : Log). Begins l log) (ap (λ z. z.0.seen) c.cut_chains-right.ensures.4) freed.0 in
    subst (λ (l : Log). IsAfter g.P.GracePlan.QSBR g.K.ChainRule.allows seen heard l × Begins own l) (sym c.learn.ensures.heard)
    (record { after_seen = begins_trans seen mid log told.0.after_seen on; after_heard = begins_trans heard mid log told.0.after_heard on; run = freed.2 }, begins_trans own mid log told.1 on)
