use Rattle.live_log.proofs.Lemmas.{begins_trans}
use Rattle.live_read.proofs.telling.inform.Goals as goal

pub returns-clause-told : goal.returns-clause-told
returns-clause-told g c =
    let told = c.tell_all-told.result.me.0.seen in
    let end = g.T.Caller.heard c.learn_more.new.caller in
    let all = c.tell_all-told.ensures.told in (
      begins_trans (g.S.Caller.seen c.args.from.now) told end all.after_seen c.learn_more.ensures.heard,
      begins_trans (g.S.Caller.heard c.args.from.now) told end all.after_heard c.learn_more.ensures.heard,
    )
