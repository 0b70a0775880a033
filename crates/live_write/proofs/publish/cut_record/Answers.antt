use Rattle.live_write.proofs.Cited.{[], ◌+◌, List, length, ◌∙◌, Some, ap, sym, refl, subst, ObjectId, In, without_object, follows_has, Log, View, ChainRight, IsListed, object_in, own_in, cut_of}
use Rattle.live_write.specs.Chains.{Publishes, list_in}
use Rattle.live_write.proofs.Walking.{one_fewer, once_in}
use Rattle.live_write.proofs.Publishing.{hears_caller, may_write, makes_last, published, cut_same, cut_stands, cut_leaves}
use Rattle.live_write.proofs.publish.cut_record.Goals as goal

pub cut-requires-clause-object : goal.cut-requires-clause-object
cut-requires-clause-object g c =
    let v = c.args.seat.now.me in let w = c.learn.new.seat.me in let seen = g.W.Caller.seen c.args.caller.now in let heard = g.W.Caller.heard c.args.caller.now in
    let hears = hears_caller g.P.GracePlan.QSBR g.K.ChainRule.allows seen heard v c.find-before.new.seat.me w c.find-before.ensures.walked.0 c.tell_all-told.result.me.0 c.tell_all-told.ensures.told c.learn.ensures.2 in
    let found = c.find-before.ensures.found in let s = cut_stands g.P.GracePlan.QSBR g.K.ChainRule.allows c.args.seat.now.me c.find-before.new.seat.me c.learn.new.seat.me c.tell_all-told.result.me.0 c.args.index c.find-before.result.0 c.find-before.result.1 c.find-before.ensures.found c.find-before.ensures.walked.0 c.learn.ensures.2 in
    (found.0, found.1, s.there, s.at, s.lies, may_write g.P.GracePlan.QSBR g.K.ChainRule.allows v.0 w.0 seen heard [] hears (cut_of found.1 v.0) (cut_of found.1 w.0) (cut_same v.0 w.0 found.1 found.1 hears.chains refl) (c.requires.rule found.1 found.2))

pub returns-clause-seat : goal.returns-clause-seat
returns-clause-seat g c =
    let t = cut_leaves g.P.GracePlan.QSBR g.K.ChainRule.allows c.args.seat.now.me c.find-before.new.seat.me c.learn.new.seat.me c.tell_all-told.result.me.0 c.args.index c.find-before.result.0 c.find-before.result.1 c.find-before.ensures.found c.find-before.ensures.walked.0 c.learn.ensures.2 c.cut.new.seat.me c.tell_changes-left.new.seat.me c.cut_object-unlinked.result.me c.cut.ensures.cut c.cut_object-unlinked.ensures.4 (c.tell_changes-left.ensures.2 ∙ c.cut_object-unlinked.ensures.2) in
    let s = c.tell_changes-left.ensures in let r = c.cut_object-unlinked.ensures in let e = c.cut.ensures.seat in let l = c.learn.ensures in let k = c.find-before.ensures.seat in (
      (s.0 ∙ (r.0 ∙ (e.0 ∙ (l.0 ∙ k.0))), s.1 ∙ (r.1 ∙ (e.1 ∙ (l.1 ∙ k.1)))),
      t.lends.0,
      t.sizes.0,
      subst IsListed (sym (ap (λ q. q.0) (s.2 ∙ r.2))) c.cut.ensures.listed,
    )

pub returns-clause-unlinked : goal.returns-clause-unlinked
returns-clause-unlinked g c =
    let t = cut_leaves g.P.GracePlan.QSBR g.K.ChainRule.allows c.args.seat.now.me c.find-before.new.seat.me c.learn.new.seat.me c.tell_all-told.result.me.0 c.args.index c.find-before.result.0 c.find-before.result.1 c.find-before.ensures.found c.find-before.ensures.walked.0 c.learn.ensures.2 c.cut.new.seat.me c.tell_changes-left.new.seat.me c.cut_object-unlinked.result.me c.cut.ensures.cut c.cut_object-unlinked.ensures.4 (c.tell_changes-left.ensures.2 ∙ c.cut_object-unlinked.ensures.2) in
    (c.cut_object-unlinked.ensures.3 ∙ (c.cut.ensures.seat.0 ∙ (c.learn.ensures.0 ∙ c.find-before.ensures.seat.0)), t.lends.1, t.sizes.1, t.seen.1 ∙ sym t.seen.0, t.unlinked, t.lies, c.find-before.ensures.low.1)

pub returns-clause-object : goal.returns-clause-object
returns-clause-object g c =
    let t = cut_leaves g.P.GracePlan.QSBR g.K.ChainRule.allows c.args.seat.now.me c.find-before.new.seat.me c.learn.new.seat.me c.tell_all-told.result.me.0 c.args.index c.find-before.result.0 c.find-before.result.1 c.find-before.ensures.found c.find-before.ensures.walked.0 c.learn.ensures.2 c.cut.new.seat.me c.tell_changes-left.new.seat.me c.cut_object-unlinked.result.me c.cut.ensures.cut c.cut_object-unlinked.ensures.4 (c.tell_changes-left.ensures.2 ∙ c.cut_object-unlinked.ensures.2) in
    c.find-before.ensures.found.2 ∙ ap Some (sym t.object)

pub returns-clause-list : goal.returns-clause-list
returns-clause-list g c =
    let t = cut_leaves g.P.GracePlan.QSBR g.K.ChainRule.allows c.args.seat.now.me c.find-before.new.seat.me c.learn.new.seat.me c.tell_all-told.result.me.0 c.args.index c.find-before.result.0 c.find-before.result.1 c.find-before.ensures.found c.find-before.ensures.walked.0 c.learn.ensures.2 c.cut.new.seat.me c.tell_changes-left.new.seat.me c.cut_object-unlinked.result.me c.cut.ensures.cut c.cut_object-unlinked.ensures.4 (c.tell_changes-left.ensures.2 ∙ c.cut_object-unlinked.ensures.2) in
    (t.list, t.lent, t.writer)

pub returns-clause-fewer : goal.returns-clause-fewer
returns-clause-fewer g c =
    let t = cut_leaves g.P.GracePlan.QSBR g.K.ChainRule.allows c.args.seat.now.me c.find-before.new.seat.me c.learn.new.seat.me c.tell_all-told.result.me.0 c.args.index c.find-before.result.0 c.find-before.result.1 c.find-before.ensures.found c.find-before.ensures.walked.0 c.learn.ensures.2 c.cut.new.seat.me c.tell_changes-left.new.seat.me c.cut_object-unlinked.result.me c.cut.ensures.cut c.cut_object-unlinked.ensures.4 (c.tell_changes-left.ensures.2 ∙ c.cut_object-unlinked.ensures.2) in
    let m = c.args.seat.now.me in let f = c.find-before.new.seat.me in let found = c.find-before.ensures.found in let walked = c.find-before.ensures.walked in
    ap (λ (r : ChainRight). length r.objects + 1) t.list
    ∙ (ap (λ (q : ObjectId). length (without_object q (list_in m.0)) + 1) t.object
    ∙ one_fewer (list_in m.0) found.1 (once_in g.P.GracePlan.QSBR g.K.ChainRule.allows m f walked.0 walked.1) (subst (λ (l : List ChainRight). In (own_in l).objects found.1) (ap (λ (q : View). q.chains) walked.0.1) (follows_has (own_in f.0.chains).objects found.0 found.1 found.4.1)))

pub returns-clause-cut : goal.returns-clause-cut
returns-clause-cut g c =
    let t = cut_leaves g.P.GracePlan.QSBR g.K.ChainRule.allows c.args.seat.now.me c.find-before.new.seat.me c.learn.new.seat.me c.tell_all-told.result.me.0 c.args.index c.find-before.result.0 c.find-before.result.1 c.find-before.ensures.found c.find-before.ensures.walked.0 c.learn.ensures.2 c.cut.new.seat.me c.tell_changes-left.new.seat.me c.cut_object-unlinked.result.me c.cut.ensures.cut c.cut_object-unlinked.ensures.4 (c.tell_changes-left.ensures.2 ∙ c.cut_object-unlinked.ensures.2) in
    let v = c.args.seat.now.me in let w = c.learn.new.seat.me in let seen = g.W.Caller.seen c.args.caller.now in let heard = g.W.Caller.heard c.args.caller.now in
    let hears = hears_caller g.P.GracePlan.QSBR g.K.ChainRule.allows seen heard v c.find-before.new.seat.me w c.find-before.ensures.walked.0 c.tell_all-told.result.me.0 c.tell_all-told.ensures.told c.learn.ensures.2 in
    let found = c.find-before.ensures.found in let s = cut_stands g.P.GracePlan.QSBR g.K.ChainRule.allows c.args.seat.now.me c.find-before.new.seat.me c.learn.new.seat.me c.tell_all-told.result.me.0 c.args.index c.find-before.result.0 c.find-before.result.1 c.find-before.ensures.found c.find-before.ensures.walked.0 c.learn.ensures.2 in let did = c.cut.ensures.cut found.0 found.1 s.there s.at s.lies in let left = object_in c.cut_object-unlinked.result.me.0.object in
    subst (λ (l : Log). Publishes g.P.GracePlan.QSBR g.K.ChainRule.allows v.0 seen heard [] (cut_of left v.0) l) (sym t.seen.0)
    (published g.P.GracePlan.QSBR g.K.ChainRule.allows v.0 w.0 seen heard [] hears (cut_of left v.0) (cut_of found.1 w.0) c.cut.new.seat.me.0.seen (cut_same v.0 w.0 found.1 left hears.chains t.object) did.2 did.3)

pub returns-clause-same : goal.returns-clause-same
returns-clause-same g c =
    let s = cut_stands g.P.GracePlan.QSBR g.K.ChainRule.allows c.args.seat.now.me c.find-before.new.seat.me c.learn.new.seat.me c.tell_all-told.result.me.0 c.args.index c.find-before.result.0 c.find-before.result.1 c.find-before.ensures.found c.find-before.ensures.walked.0 c.learn.ensures.2 in
    let found = c.find-before.ensures.found in let did = c.cut.ensures.cut found.0 found.1 s.there s.at s.lies in
    let t = c.tell_changes-left in let told = t.ensures.4 in let rest = c.cut_object-unlinked.ensures.2 in let l = c.learn_changes.ensures in
    makes_last g.W.Caller c.args.caller.now c.tell_all-told.new.caller c.learn_changes.new.self t.result.me.0 (cut_of found.1 c.learn.new.seat.me.0) did.2.0 t.new.seat.me.0.seen c.tell_all-told.ensures.same l.loads l.same l.inside
    (ap (λ m. m.0.loads) told, ap (λ m. m.0.looks) told, ap (λ m. m.0.changes) told ∙ (ap (λ m. m.0.changes) rest ∙ ap (λ (u : View). u.changes) did.1)) (ap (λ m. m.0.seen) t.ensures.2 ∙ (ap (λ m. m.0.seen) rest ∙ did.2.1))
