use Rattle.live_read.proofs.Cited.{Bool, subst, Close, begins_trans, IsClosed, has_more, count_in}
use Rattle.live_read.specs.Holding.{log_of}
use Rattle.live_read.proofs.reader.Reader.unregister.Goals as goal

pub returns-clause-told : goal.returns-clause-told
returns-clause-told g c =
    let r = c.args.self.core in let s = c.give_back-table.result.1.me.0.seen in let end = g.W.Caller.heard c.learn_more.new.caller in
    let given = c.give_back-table.ensures.given in let more = c.learn_more.ensures.heard in
    (begins_trans (log_of r) s end given.later.0 more, begins_trans r.seat.me.0.heard s end given.later.1 more)

pub returns-clause-closed : goal.returns-clause-closed
returns-clause-closed g c qsbr online =
    let r = c.args.self.core in let s = c.give_back-table.result.1.me.0.seen in let end = g.W.Caller.heard c.learn_more.new.caller in
    has_more (Close r.slot (count_in r.seat.me.0.slot)) s end c.learn_more.ensures.heard
    (c.give_back-table.ensures.given.closed (λ shut. online (subst (λ (b : Bool). IsClosed b r.word) qsbr shut)))
