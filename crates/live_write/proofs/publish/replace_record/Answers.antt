use Rattle.live_write.proofs.Cited.{◌≡◌, ◌+◌, ◌∷◌, List, length, ◌∙◌, Some, ap, sym, refl, subst, inr, next_of, follows_has, Log, objects_of, View, ChainRight, ref, lent_chains, IsListed, object_in, own_in, replace_of}
use Rattle.live_write.specs.Chains.{Publishes, list_in, replace_by}
use Rattle.live_write.proofs.Walking.{as_many, went_both}
use Rattle.live_write.proofs.Publishing.{hears_owner, has_record, makes_last, may_write, published, replace_same, replace_stands, replace_leaves}
use Rattle.live_write.proofs.publish.replace_record.Goals as goal

pub load_link-next-requires : goal.load_link-next-requires
load_link-next-requires g c = let k = c.find-before.ensures in (k.seat.0 ∙ c.requires.seat.0, ap (λ (q : View). q.sizes) k.walked.0.1 ∙ c.requires.seat.1, k.low.1)

pub replace-requires-clause-object : goal.replace-requires-clause-object
replace-requires-clause-object g c =
    let object = has_record g.P.GracePlan.QSBR g.K.ChainRule.allows (g.W.Caller.seen c.args.caller.now) (g.W.Caller.heard c.args.caller.now) c.find-before.new.seat.me c.load_link-next.new.seat.me c.take_object-2.new.seat.me c.load_link-next.ensures.looked c.tell_all-told.result.me.0 c.args.owned.me.0 c.take_object.new.seat.me c.load_seq.new.seat.me (ap (λ q. q.0) c.take_object.ensures.2) c.load_seq.ensures.looked c.take_object-2.ensures.2 in
    let v = c.args.seat.now.me in let f = c.find-before.new.seat.me in let n = c.load_link-next.new.seat.me in let w = c.take_object-2.new.seat.me in let owned = c.args.owned.me.0 in let seen = g.W.Caller.seen c.args.caller.now in let heard = g.W.Caller.heard c.args.caller.now in
    let hears = hears_owner g.P.GracePlan.QSBR g.K.ChainRule.allows seen heard v n w (went_both g.P.GracePlan.QSBR g.K.ChainRule.allows v f n c.find-before.ensures.walked.0 c.load_link-next.ensures.looked) c.tell_all-told.result.me.0 owned c.take_object.new.seat.me c.load_seq.new.seat.me c.tell_all-told.ensures.told (ap (λ q. q.0) c.take_object.ensures.2) c.load_seq.ensures.looked c.take_object-2.ensures.2 in
    let found = c.find-before.ensures.found in let s = replace_stands g.P.GracePlan.QSBR g.K.ChainRule.allows c.args.seat.now.me c.find-before.new.seat.me c.load_link-next.new.seat.me c.take_object-2.new.seat.me c.load_seq.new.seat.me.0 c.args.index c.find-before.result.0 c.find-before.result.1 c.find-before.ensures.found c.find-before.ensures.walked.0 c.find-before.ensures.walked.1 c.load_link-next.ensures.looked c.take_object-2.ensures.2 in let o = found.1 in
    let walked = c.find-before.ensures.walked in let has = follows_has (own_in f.0.chains).objects found.0 o found.4.1 in
    let own = subst (λ (l : List ChainRight). l ≡ own_in l ∷ lent_chains l) (ap (λ (q : View). q.chains) (sym walked.0.1)) c.requires.right.0 in
    let next = c.load_link-next.ensures.next o (found.5, inr (own, walked.1, has)) in let took = c.take_object-2.ensures.2 in
    let leads = next.1.1 ∙ (ap (ref (objects_of n.0.seen)) (next.1.3 own has) ∙ (ap (λ (q : View). ref (objects_of n.0.seen) (next_of (own_in q.chains).objects o)) (sym c.load_link-next.ensures.looked.1) ∙ ap (λ z. ref (objects_of z.0.seen) (next_of (own_in z.0.chains).objects o)) (sym took))) in
    (found.0, o, s.there, s.at, leads, may_write g.P.GracePlan.QSBR g.K.ChainRule.allows v.0 w.0 seen heard owned.seen hears (replace_by o v.0 owned) (replace_of o w.0) (replace_same v.0 owned w.0 o o hears.chains object refl) (c.requires.rule o found.2))

pub returns-clause-seat : goal.returns-clause-seat
returns-clause-seat g c =
    let object = has_record g.P.GracePlan.QSBR g.K.ChainRule.allows (g.W.Caller.seen c.args.caller.now) (g.W.Caller.heard c.args.caller.now) c.find-before.new.seat.me c.load_link-next.new.seat.me c.take_object-2.new.seat.me c.load_link-next.ensures.looked c.tell_all-told.result.me.0 c.args.owned.me.0 c.take_object.new.seat.me c.load_seq.new.seat.me (ap (λ q. q.0) c.take_object.ensures.2) c.load_seq.ensures.looked c.take_object-2.ensures.2 in
    let t = replace_leaves g.P.GracePlan.QSBR g.K.ChainRule.allows c.args.seat.now.me c.find-before.new.seat.me c.load_link-next.new.seat.me c.take_object-2.new.seat.me c.load_seq.new.seat.me.0 c.args.index c.find-before.result.0 c.find-before.result.1 c.find-before.ensures.found c.find-before.ensures.walked.0 c.find-before.ensures.walked.1 c.load_link-next.ensures.looked c.take_object-2.ensures.2 c.replace.new.seat.me c.tell_changes-changed.new.seat.me c.cut_object-unlinked.result.me c.args.owned.me.0 (c.args.cell + 1) object c.replace.ensures.replaced c.cut_object-unlinked.ensures.4 (c.tell_changes-changed.ensures.2 ∙ c.cut_object-unlinked.ensures.2) in
    let s = c.tell_changes-changed.ensures in let r = c.cut_object-unlinked.ensures in let e = c.replace.ensures.seat in let l = c.take_object-2.ensures in let y = c.load_link-next.ensures.seat in let k = c.find-before.ensures.seat in (
      (s.0 ∙ (r.0 ∙ (e.0 ∙ (l.0 ∙ (y.0 ∙ k.0)))), s.1 ∙ (r.1 ∙ (e.1 ∙ (l.1 ∙ (y.1 ∙ k.1))))),
      t.lends.0,
      t.sizes.0,
      subst IsListed (sym (ap (λ q. q.0) (s.2 ∙ r.2))) c.replace.ensures.listed,
    )

pub returns-clause-unlinked : goal.returns-clause-unlinked
returns-clause-unlinked g c =
    let object = has_record g.P.GracePlan.QSBR g.K.ChainRule.allows (g.W.Caller.seen c.args.caller.now) (g.W.Caller.heard c.args.caller.now) c.find-before.new.seat.me c.load_link-next.new.seat.me c.take_object-2.new.seat.me c.load_link-next.ensures.looked c.tell_all-told.result.me.0 c.args.owned.me.0 c.take_object.new.seat.me c.load_seq.new.seat.me (ap (λ q. q.0) c.take_object.ensures.2) c.load_seq.ensures.looked c.take_object-2.ensures.2 in
    let t = replace_leaves g.P.GracePlan.QSBR g.K.ChainRule.allows c.args.seat.now.me c.find-before.new.seat.me c.load_link-next.new.seat.me c.take_object-2.new.seat.me c.load_seq.new.seat.me.0 c.args.index c.find-before.result.0 c.find-before.result.1 c.find-before.ensures.found c.find-before.ensures.walked.0 c.find-before.ensures.walked.1 c.load_link-next.ensures.looked c.take_object-2.ensures.2 c.replace.new.seat.me c.tell_changes-changed.new.seat.me c.cut_object-unlinked.result.me c.args.owned.me.0 (c.args.cell + 1) object c.replace.ensures.replaced c.cut_object-unlinked.ensures.4 (c.tell_changes-changed.ensures.2 ∙ c.cut_object-unlinked.ensures.2) in
    (c.cut_object-unlinked.ensures.3 ∙ (c.replace.ensures.seat.0 ∙ (c.take_object-2.ensures.0 ∙ (c.load_link-next.ensures.seat.0 ∙ c.find-before.ensures.seat.0))), t.lends.1, t.sizes.1, t.seen.1 ∙ sym t.seen.0, t.unlinked, t.lies, c.find-before.ensures.low.1)

pub returns-clause-object : goal.returns-clause-object
returns-clause-object g c =
    let object = has_record g.P.GracePlan.QSBR g.K.ChainRule.allows (g.W.Caller.seen c.args.caller.now) (g.W.Caller.heard c.args.caller.now) c.find-before.new.seat.me c.load_link-next.new.seat.me c.take_object-2.new.seat.me c.load_link-next.ensures.looked c.tell_all-told.result.me.0 c.args.owned.me.0 c.take_object.new.seat.me c.load_seq.new.seat.me (ap (λ q. q.0) c.take_object.ensures.2) c.load_seq.ensures.looked c.take_object-2.ensures.2 in
    let t = replace_leaves g.P.GracePlan.QSBR g.K.ChainRule.allows c.args.seat.now.me c.find-before.new.seat.me c.load_link-next.new.seat.me c.take_object-2.new.seat.me c.load_seq.new.seat.me.0 c.args.index c.find-before.result.0 c.find-before.result.1 c.find-before.ensures.found c.find-before.ensures.walked.0 c.find-before.ensures.walked.1 c.load_link-next.ensures.looked c.take_object-2.ensures.2 c.replace.new.seat.me c.tell_changes-changed.new.seat.me c.cut_object-unlinked.result.me c.args.owned.me.0 (c.args.cell + 1) object c.replace.ensures.replaced c.cut_object-unlinked.ensures.4 (c.tell_changes-changed.ensures.2 ∙ c.cut_object-unlinked.ensures.2) in
    c.find-before.ensures.found.2 ∙ ap Some (sym t.object)

pub returns-clause-list : goal.returns-clause-list
returns-clause-list g c =
    let object = has_record g.P.GracePlan.QSBR g.K.ChainRule.allows (g.W.Caller.seen c.args.caller.now) (g.W.Caller.heard c.args.caller.now) c.find-before.new.seat.me c.load_link-next.new.seat.me c.take_object-2.new.seat.me c.load_link-next.ensures.looked c.tell_all-told.result.me.0 c.args.owned.me.0 c.take_object.new.seat.me c.load_seq.new.seat.me (ap (λ q. q.0) c.take_object.ensures.2) c.load_seq.ensures.looked c.take_object-2.ensures.2 in
    let t = replace_leaves g.P.GracePlan.QSBR g.K.ChainRule.allows c.args.seat.now.me c.find-before.new.seat.me c.load_link-next.new.seat.me c.take_object-2.new.seat.me c.load_seq.new.seat.me.0 c.args.index c.find-before.result.0 c.find-before.result.1 c.find-before.ensures.found c.find-before.ensures.walked.0 c.find-before.ensures.walked.1 c.load_link-next.ensures.looked c.take_object-2.ensures.2 c.replace.new.seat.me c.tell_changes-changed.new.seat.me c.cut_object-unlinked.result.me c.args.owned.me.0 (c.args.cell + 1) object c.replace.ensures.replaced c.cut_object-unlinked.ensures.4 (c.tell_changes-changed.ensures.2 ∙ c.cut_object-unlinked.ensures.2) in
    (t.list, t.lent, t.writer)

pub returns-clause-many : goal.returns-clause-many
returns-clause-many g c =
    let object = has_record g.P.GracePlan.QSBR g.K.ChainRule.allows (g.W.Caller.seen c.args.caller.now) (g.W.Caller.heard c.args.caller.now) c.find-before.new.seat.me c.load_link-next.new.seat.me c.take_object-2.new.seat.me c.load_link-next.ensures.looked c.tell_all-told.result.me.0 c.args.owned.me.0 c.take_object.new.seat.me c.load_seq.new.seat.me (ap (λ q. q.0) c.take_object.ensures.2) c.load_seq.ensures.looked c.take_object-2.ensures.2 in
    let t = replace_leaves g.P.GracePlan.QSBR g.K.ChainRule.allows c.args.seat.now.me c.find-before.new.seat.me c.load_link-next.new.seat.me c.take_object-2.new.seat.me c.load_seq.new.seat.me.0 c.args.index c.find-before.result.0 c.find-before.result.1 c.find-before.ensures.found c.find-before.ensures.walked.0 c.find-before.ensures.walked.1 c.load_link-next.ensures.looked c.take_object-2.ensures.2 c.replace.new.seat.me c.tell_changes-changed.new.seat.me c.cut_object-unlinked.result.me c.args.owned.me.0 (c.args.cell + 1) object c.replace.ensures.replaced c.cut_object-unlinked.ensures.4 (c.tell_changes-changed.ensures.2 ∙ c.cut_object-unlinked.ensures.2) in
    ap (λ (r : ChainRight). length r.objects) t.list ∙ as_many (object_in c.cut_object-unlinked.result.me.0.object) (object_in c.args.owned.me.0.object) (list_in c.args.seat.now.me.0)

pub returns-clause-replaced : goal.returns-clause-replaced
returns-clause-replaced g c =
    let object = has_record g.P.GracePlan.QSBR g.K.ChainRule.allows (g.W.Caller.seen c.args.caller.now) (g.W.Caller.heard c.args.caller.now) c.find-before.new.seat.me c.load_link-next.new.seat.me c.take_object-2.new.seat.me c.load_link-next.ensures.looked c.tell_all-told.result.me.0 c.args.owned.me.0 c.take_object.new.seat.me c.load_seq.new.seat.me (ap (λ q. q.0) c.take_object.ensures.2) c.load_seq.ensures.looked c.take_object-2.ensures.2 in
    let t = replace_leaves g.P.GracePlan.QSBR g.K.ChainRule.allows c.args.seat.now.me c.find-before.new.seat.me c.load_link-next.new.seat.me c.take_object-2.new.seat.me c.load_seq.new.seat.me.0 c.args.index c.find-before.result.0 c.find-before.result.1 c.find-before.ensures.found c.find-before.ensures.walked.0 c.find-before.ensures.walked.1 c.load_link-next.ensures.looked c.take_object-2.ensures.2 c.replace.new.seat.me c.tell_changes-changed.new.seat.me c.cut_object-unlinked.result.me c.args.owned.me.0 (c.args.cell + 1) object c.replace.ensures.replaced c.cut_object-unlinked.ensures.4 (c.tell_changes-changed.ensures.2 ∙ c.cut_object-unlinked.ensures.2) in
    let v = c.args.seat.now.me in let f = c.find-before.new.seat.me in let n = c.load_link-next.new.seat.me in let w = c.take_object-2.new.seat.me in let owned = c.args.owned.me.0 in let seen = g.W.Caller.seen c.args.caller.now in let heard = g.W.Caller.heard c.args.caller.now in
    let hears = hears_owner g.P.GracePlan.QSBR g.K.ChainRule.allows seen heard v n w (went_both g.P.GracePlan.QSBR g.K.ChainRule.allows v f n c.find-before.ensures.walked.0 c.load_link-next.ensures.looked) c.tell_all-told.result.me.0 owned c.take_object.new.seat.me c.load_seq.new.seat.me c.tell_all-told.ensures.told (ap (λ q. q.0) c.take_object.ensures.2) c.load_seq.ensures.looked c.take_object-2.ensures.2 in
    let found = c.find-before.ensures.found in let s = replace_stands g.P.GracePlan.QSBR g.K.ChainRule.allows c.args.seat.now.me c.find-before.new.seat.me c.load_link-next.new.seat.me c.take_object-2.new.seat.me c.load_seq.new.seat.me.0 c.args.index c.find-before.result.0 c.find-before.result.1 c.find-before.ensures.found c.find-before.ensures.walked.0 c.find-before.ensures.walked.1 c.load_link-next.ensures.looked c.take_object-2.ensures.2 in let did = c.replace.ensures.replaced found.0 found.1 s.there s.at in let left = object_in c.cut_object-unlinked.result.me.0.object in
    subst (λ (l : Log). Publishes g.P.GracePlan.QSBR g.K.ChainRule.allows v.0 seen heard owned.seen (replace_by left v.0 owned) l) (sym t.seen.0)
    (published g.P.GracePlan.QSBR g.K.ChainRule.allows v.0 w.0 seen heard owned.seen hears (replace_by left v.0 owned) (replace_of found.1 w.0) c.replace.new.seat.me.0.seen (replace_same v.0 owned w.0 found.1 left hears.chains object t.object) did.2 did.3)

pub returns-clause-same : goal.returns-clause-same
returns-clause-same g c =
    let s = replace_stands g.P.GracePlan.QSBR g.K.ChainRule.allows c.args.seat.now.me c.find-before.new.seat.me c.load_link-next.new.seat.me c.take_object-2.new.seat.me c.load_seq.new.seat.me.0 c.args.index c.find-before.result.0 c.find-before.result.1 c.find-before.ensures.found c.find-before.ensures.walked.0 c.find-before.ensures.walked.1 c.load_link-next.ensures.looked c.take_object-2.ensures.2 in
    let found = c.find-before.ensures.found in let did = c.replace.ensures.replaced found.0 found.1 s.there s.at in
    let t = c.tell_changes-changed in let told = t.ensures.4 in let rest = c.cut_object-unlinked.ensures.2 in let l = c.learn_changes.ensures in
    makes_last g.W.Caller c.args.caller.now c.tell_all-told.new.caller c.learn_changes.new.self t.result.me.0 (replace_of found.1 c.take_object-2.new.seat.me.0) did.2.0 t.new.seat.me.0.seen c.tell_all-told.ensures.same l.loads l.same l.inside
    (ap (λ m. m.0.loads) told, ap (λ m. m.0.looks) told, ap (λ m. m.0.changes) told ∙ (ap (λ m. m.0.changes) rest ∙ ap (λ (u : View). u.changes) did.1)) (ap (λ m. m.0.seen) t.ensures.2 ∙ (ap (λ m. m.0.seen) rest ∙ did.2.1))
