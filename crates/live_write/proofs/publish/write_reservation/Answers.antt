use Rattle.live_write.proofs.Cited.{ℕ, ◌+◌, ◌^◌, ap, sym, ◌∙◌, subst, ChainNote, Log, View, own_in}
use Rattle.live_write.specs.Chains.{Publishes}
use Rattle.live_write.proofs.Publishing.{has_record, hears_owner, makes_last, may_reserve, published}
use Rattle.live_write.proofs.publish.write_reservation.Goals as goal

pub store_note-requires-clause-rule : goal.store_note-requires-clause-rule
store_note-requires-clause-rule g c =
    let qsbr = g.P.GracePlan.QSBR in let allows = g.K.ChainRule.allows in let v = c.args.seat.now.me in let u = c.args.owned.me.0 in let f = c.load_note.new.seat.me in let w = c.take_object-2.new.seat.me in
    let seen = g.W.Caller.seen c.args.caller.now in let heard = g.W.Caller.heard c.args.caller.now in let t = c.tell_all-told.result.me.0 in let a = c.take_object.new.seat.me in let b = c.load_seq.new.seat.me in let went = c.load_note.ensures.looked in let is = c.take_object-2.ensures.2 in let took = ap (λ z. z.0) c.take_object.ensures.2 in
    let hears = hears_owner qsbr allows seen heard v f w went t u a b c.tell_all-told.ensures.told took c.load_seq.ensures.looked is in
    let object = has_record qsbr allows seen heard v f w went t u a b took c.load_seq.ensures.looked is in
    may_reserve qsbr allows v.0 w.0 u seen heard hears object c.requires.owned.2 c.args.chain (2 ^ 63 + c.args.number) (sym c.requires.right.1 ∙ ap (λ l. (own_in l).chain) (sym hears.chains)) c.requires.rule

pub returns-clause-noted : goal.returns-clause-noted
returns-clause-noted g c =
    let qsbr = g.P.GracePlan.QSBR in let allows = g.K.ChainRule.allows in let v = c.args.seat.now.me in let u = c.args.owned.me.0 in let f = c.load_note.new.seat.me in let w = c.take_object-2.new.seat.me in
    let seen = g.W.Caller.seen c.args.caller.now in let heard = g.W.Caller.heard c.args.caller.now in let t = c.tell_all-told.result.me.0 in let a = c.take_object.new.seat.me in let b = c.load_seq.new.seat.me in let went = c.load_note.ensures.looked in let is = c.take_object-2.ensures.2 in let took = ap (λ z. z.0) c.take_object.ensures.2 in
    let hears = hears_owner qsbr allows seen heard v f w went t u a b c.tell_all-told.ensures.told took c.load_seq.ensures.looked is in
    let chain = sym c.requires.right.1 ∙ ap (λ l. (own_in l).chain) (sym hears.chains) in let note = 2 ^ 63 + c.args.number in let cut = ap (λ z. z.0.seen) c.cut_object-owned.ensures.2 in
    subst (λ (l : Log). Publishes qsbr allows v.0 seen heard u.seen (ChainNote c.args.chain note) l) (sym cut ∙ sym (ap (λ z. z.0.seen) c.tell_changes-reserved.ensures.2))
    (published qsbr allows v.0 w.0 seen heard u.seen hears (ChainNote c.args.chain note) (ChainNote (own_in w.0.chains).chain note) c.store_note.new.seat.me.0.seen (ap (λ (n : ℕ). ChainNote n note) chain) c.store_note.ensures.noted.0.2 c.store_note.ensures.noted.0.3)

pub returns-clause-same : goal.returns-clause-same
returns-clause-same g c =
    let t = c.tell_changes-reserved in let told = t.ensures.4 in let did = c.store_note.ensures.noted.0 in let l = c.learn_changes.ensures in let cut = c.cut_object-owned.ensures.2 in
    makes_last g.W.Caller c.args.caller.now c.tell_all-told.new.caller c.learn_changes.new.self t.result.me.0 (ChainNote (own_in c.take_object-2.new.seat.me.0.chains).chain (2 ^ 63 + c.args.number)) did.2.0 t.new.seat.me.0.seen c.tell_all-told.ensures.same l.loads l.same l.inside
    (ap (λ m. m.0.loads) told, ap (λ m. m.0.looks) told, ap (λ m. m.0.changes) told ∙ (ap (λ z. z.0.changes) cut ∙ ap (λ (u : View). u.changes) did.1)) (ap (λ m. m.0.seen) t.ensures.2 ∙ (ap (λ m. m.0.seen) cut ∙ did.2.1))
