use Rattle.rcu.proofs.Cited.{subst, sym, refl, Log, Begins, begins_trans}
use Rattle.rcu.proofs.Hearing.{still_after}
use Rattle.rcu.proofs.pending.PendingOf+LiveCookie+Handle+B+T.open.Goals as goal

pub returns-then-poll-clause-opened : goal.returns-then-poll-clause-opened
returns-then-poll-clause-opened g c =
    let heard : Log = g.W.Caller.heard c.poll.new.caller in
    let begun = begins_trans c.args.self.handle.seat.me.0.heard (g.W.Caller.heard c.inform.new.to) heard c.inform.ensures.told.1 c.poll.ensures.loaded.after.after_heard in
    (refl, c.poll.ensures.past (subst (λ l. Begins l heard) (sym c.args.self.knows) begun) c.if-poll.true)

pub returns-then-poll-clause-heard : goal.returns-then-poll-clause-heard
returns-then-poll-clause-heard g c = still_after g.P.GracePlan.QSBR g.K.ChainRule.allows (g.W.Caller.seen c.args.caller.now) (g.W.Caller.heard c.args.caller.now) (g.W.Caller.seen c.inform.new.to) (g.W.Caller.heard c.inform.new.to) (g.W.Caller.heard c.poll.new.caller) c.inform.ensures.to.0.0 c.inform.ensures.kept.after_heard c.poll.ensures.loaded.after

pub returns-else-poll-clause-heard : goal.returns-else-poll-clause-heard
returns-else-poll-clause-heard g c = still_after g.P.GracePlan.QSBR g.K.ChainRule.allows (g.W.Caller.seen c.args.caller.now) (g.W.Caller.heard c.args.caller.now) (g.W.Caller.seen c.inform.new.to) (g.W.Caller.heard c.inform.new.to) (g.W.Caller.heard c.poll.new.caller) c.inform.ensures.to.0.0 c.inform.ensures.kept.after_heard c.poll.ensures.loaded.after

pub returns-then-poll-clause-told : goal.returns-then-poll-clause-told
returns-then-poll-clause-told g c =
    let heard : Log = g.W.Caller.heard c.poll.new.caller in
    subst (λ l. Begins l heard) (sym c.args.self.knows) (begins_trans c.args.self.handle.seat.me.0.heard (g.W.Caller.heard c.inform.new.to) heard c.inform.ensures.told.1 c.poll.ensures.loaded.after.after_heard)

pub returns-else-poll-clause-told : goal.returns-else-poll-clause-told
returns-else-poll-clause-told g c =
    let heard : Log = g.W.Caller.heard c.poll.new.caller in
    subst (λ l. Begins l heard) (sym c.args.self.knows) (begins_trans c.args.self.handle.seat.me.0.heard (g.W.Caller.heard c.inform.new.to) heard c.inform.ensures.told.1 c.poll.ensures.loaded.after.after_heard)
