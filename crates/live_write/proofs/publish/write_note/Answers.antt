use Rattle.live_write.proofs.Cited.{ℕ, [], ap, sym, ◌∙◌, subst, ChainNote, Log, View, own_in}
use Rattle.live_write.specs.Chains.{Publishes}
use Rattle.live_write.proofs.Publishing.{hears_caller, makes_last, may_note, published}
use Rattle.live_write.proofs.publish.write_note.Goals as goal

pub store_note-requires-clause-rule : goal.store_note-requires-clause-rule
store_note-requires-clause-rule g c =
    let qsbr = g.P.GracePlan.QSBR in let allows = g.K.ChainRule.allows in let v = c.args.seat.now.me in let w = c.learn.new.seat.me in let seen = g.W.Caller.seen c.args.caller.now in let heard = g.W.Caller.heard c.args.caller.now in
    let hears = hears_caller qsbr allows seen heard v c.load_note.new.seat.me w c.load_note.ensures.looked c.tell_all-told.result.me.0 c.tell_all-told.ensures.told c.learn.ensures.2 in
    let chain = sym c.requires.right.1 ∙ ap (λ l. (own_in l).chain) (sym hears.chains) in
    may_note qsbr allows v.0 w.0 seen heard [] hears c.args.chain c.args.note chain c.requires.rule

pub returns-clause-noted : goal.returns-clause-noted
returns-clause-noted g c =
    let qsbr = g.P.GracePlan.QSBR in let allows = g.K.ChainRule.allows in let v = c.args.seat.now.me in let w = c.learn.new.seat.me in let seen = g.W.Caller.seen c.args.caller.now in let heard = g.W.Caller.heard c.args.caller.now in
    let hears = hears_caller qsbr allows seen heard v c.load_note.new.seat.me w c.load_note.ensures.looked c.tell_all-told.result.me.0 c.tell_all-told.ensures.told c.learn.ensures.2 in
    let chain = sym c.requires.right.1 ∙ ap (λ l. (own_in l).chain) (sym hears.chains) in
    subst (λ (l : Log). Publishes qsbr allows v.0 seen heard [] (ChainNote c.args.chain c.args.note) l) (ap (λ z. z.0.seen) (sym c.tell_changes-noted.ensures.2))
    (published qsbr allows v.0 w.0 seen heard [] hears (ChainNote c.args.chain c.args.note) (ChainNote (own_in w.0.chains).chain c.args.note) c.store_note.new.seat.me.0.seen (ap (λ (n : ℕ). ChainNote n c.args.note) chain) c.store_note.ensures.noted.0.2 c.store_note.ensures.noted.0.3)

pub returns-clause-same : goal.returns-clause-same
returns-clause-same g c =
    let t = c.tell_changes-noted in let told = t.ensures.4 in let did = c.store_note.ensures.noted.0 in let l = c.learn_changes.ensures in
    makes_last g.W.Caller c.args.caller.now c.tell_all-told.new.caller c.learn_changes.new.self t.result.me.0 (ChainNote (own_in c.learn.new.seat.me.0.chains).chain c.args.note) did.2.0 t.new.seat.me.0.seen c.tell_all-told.ensures.same l.loads l.same l.inside
    (ap (λ m. m.0.loads) told, ap (λ m. m.0.looks) told, ap (λ m. m.0.changes) told ∙ ap (λ (u : View). u.changes) did.1) (ap (λ m. m.0.seen) t.ensures.2 ∙ did.2.1)
