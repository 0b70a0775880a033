use Rattle.live_read.proofs.Cited.{sym, ap, subst, IsLiveRun, begins_trans}
use Rattle.live_read.proofs.Leaving.{both_later}
use Rattle.live_read.proofs.telling.learn_more.Goals as goal

pub returns-clause-kept : goal.returns-clause-kept
returns-clause-kept g c =
    let qsbr = g.P.GracePlan.QSBR in
    let allows = g.K.ChainRule.allows in
    let own = c.tell_all-own.result.me.0.seen in
    let before = c.learn.new.seat.me.0 in
    let seen = c.load_seq.new.seat.me.0.seen in
    let end = g.W.Caller.heard c.learn-2.new.self in
    let both = both_later qsbr allows own c.args.told.me.0.seen before seen end (ap (λ m. m.0.seen) c.learn.ensures.2) (ap (λ m. m.0.heard) c.learn.ensures.2) c.load_seq.ensures.looked.1 c.learn-2.ensures.heard in
    let told = c.tell_all-own.ensures.told in
    record {
      after_seen = begins_trans (g.W.Caller.seen c.args.caller.now) own end told.after_seen both.0;
      after_heard = begins_trans (g.W.Caller.heard c.args.caller.now) own end told.after_heard both.0;
      run = subst (IsLiveRun qsbr allows) (sym c.learn-2.ensures.heard) c.load_seq.ensures.looked.1.4;
    }
