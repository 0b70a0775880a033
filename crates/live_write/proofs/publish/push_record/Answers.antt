use Rattle.live_write.proofs.Cited.{ap, sym, ◌∙◌, subst, Log, View, push_of}
use Rattle.live_write.specs.Chains.{Publishes, push_by}
use Rattle.live_write.proofs.Publishing.{hears_owner, has_record, may_write, makes_last, published, push_same}
use Rattle.live_write.proofs.publish.push_record.Goals as goal

pub push-requires-clause-rule : goal.push-requires-clause-rule
push-requires-clause-rule g c =
    let qsbr = g.P.GracePlan.QSBR in let allows = g.K.ChainRule.allows in let v = c.args.seat.now.me in let u = c.args.owned.me.0 in let f = c.load_head-head.new.seat.me in let w = c.take_object-2.new.seat.me in
    let seen = g.W.Caller.seen c.args.caller.now in let heard = g.W.Caller.heard c.args.caller.now in let t = c.tell_all-told.result.me.0 in let a = c.take_object.new.seat.me in let b = c.load_seq.new.seat.me in let went = c.load_head-head.ensures.looked in let is = c.take_object-2.ensures.2 in let took = ap (λ z. z.0) c.take_object.ensures.2 in
    let hears = hears_owner qsbr allows seen heard v f w went t u a b c.tell_all-told.ensures.told took c.load_seq.ensures.looked is in
    let object = has_record qsbr allows seen heard v f w went t u a b took c.load_seq.ensures.looked is in
    may_write qsbr allows v.0 w.0 seen heard u.seen hears (push_by v.0 u) (push_of w.0) (push_same v.0 u w.0 hears.chains object) c.requires.rule

pub returns-clause-pushed : goal.returns-clause-pushed
returns-clause-pushed g c =
    let qsbr = g.P.GracePlan.QSBR in let allows = g.K.ChainRule.allows in let v = c.args.seat.now.me in let u = c.args.owned.me.0 in let f = c.load_head-head.new.seat.me in let w = c.take_object-2.new.seat.me in
    let seen = g.W.Caller.seen c.args.caller.now in let heard = g.W.Caller.heard c.args.caller.now in let t = c.tell_all-told.result.me.0 in let a = c.take_object.new.seat.me in let b = c.load_seq.new.seat.me in let went = c.load_head-head.ensures.looked in let is = c.take_object-2.ensures.2 in let took = ap (λ z. z.0) c.take_object.ensures.2 in
    let hears = hears_owner qsbr allows seen heard v f w went t u a b c.tell_all-told.ensures.told took c.load_seq.ensures.looked is in
    let object = has_record qsbr allows seen heard v f w went t u a b took c.load_seq.ensures.looked is in
    let x = c.push.new.seat.me.0.seen in
    subst (λ (l : Log). Publishes qsbr allows v.0 seen heard u.seen (push_by v.0 u) l) (ap (λ z. z.0.seen) (sym c.tell_changes-pushed.ensures.2))
    (published qsbr allows v.0 w.0 seen heard u.seen hears (push_by v.0 u) (push_of w.0) x (push_same v.0 u w.0 hears.chains object) c.push.ensures.pushed.0.2 c.push.ensures.pushed.0.3)

pub returns-clause-same : goal.returns-clause-same
returns-clause-same g c =
    let t = c.tell_changes-pushed in let told = t.ensures.4 in let did = c.push.ensures.pushed.0 in let l = c.learn_changes.ensures in
    makes_last g.W.Caller c.args.caller.now c.tell_all-told.new.caller c.learn_changes.new.self t.result.me.0 (push_of c.take_object-2.new.seat.me.0) did.2.0 t.new.seat.me.0.seen c.tell_all-told.ensures.same l.loads l.same l.inside
    (ap (λ m. m.0.loads) told, ap (λ m. m.0.looks) told, ap (λ m. m.0.changes) told ∙ ap (λ (u : View). u.changes) did.1) (ap (λ m. m.0.seen) t.ensures.2 ∙ did.2.1)
