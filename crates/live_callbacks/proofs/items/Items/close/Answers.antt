use Rattle.live_callbacks.proofs.Cited.{ℕ, [], ◌∷◌, refl, sym, ap, ◌∙◌, subst, CloseQueue, Log, Begins, begins_trans, View, QueueRight, Owns, queue_in, queued_in}
use Rattle.live_callbacks.specs.Items.{Closes, Jobs, IsUnderLock}
use Rattle.live_callbacks.proofs.Orders.{under_closed}
use Rattle.live_callbacks.proofs.items.Items.close.Goals as goal

pub invariant_of-self : goal.invariant_of-self
invariant_of-self g c =
    let key = g.B.Site.sizes in
    let q : ℕ = c.self.inside.number in
    let jobs : Jobs g.row.C.Denot = c.self.inside.queue in
    let old : View = c.self.inside.seat.me.0 in
    let new : View = c.store_closed.new.seat.me.0 in
    let i = c.self.invariant in
    let learn = ap (λ z. z.0) c.learn.ensures.2 in
    let closed = c.store_closed.ensures.closed in
    let told = c.tell.ensures in
    let before : Log = closed.2.0 in
    let kept : Begins old.seen before = subst (λ (l : Log). Begins l before) (ap (λ (v : View). v.seen) learn) closed.2.2 in
    let later : Begins old.seen new.seen = subst (Begins old.seen) (sym closed.2.1) (begins_trans old.seen before (_ ∷ before) kept (_ ∷ [], refl)) in
    let right = ap (λ (v : View). v.queue) closed.1 ∙ ap (λ (r : QueueRight). Owns (queue_in r) (queued_in r) 1) (ap (λ (v : View). v.queue) learn ∙ i.2.right) in
    let under = under_closed key jobs old new q i.2 (ap (λ (v : View). v.sizes) closed.1 ∙ ap (λ (v : View). v.sizes) learn) later right (ap (λ (v : View). v.object) closed.1 ∙ ap (λ (v : View). v.object) learn) in (
      told.0 ∙ (c.store_closed.ensures.seat.0 ∙ (c.learn.ensures.0 ∙ i.0)),
      ap (λ z. z.1) told.2 ∙ (closed.0 ∙ (ap (λ z. z.1) c.learn.ensures.2 ∙ i.1)),
      subst (λ (v : View). IsUnderLock key c.close.new.self v q) (sym (ap (λ z. z.0) told.2)) (subst (λ (j : Jobs g.row.C.Denot). IsUnderLock key j new q) (sym c.close.ensures) under),
    )

pub returns-clause-closed : goal.returns-clause-closed
returns-clause-closed g c =
    let qsbr = g.P.GracePlan.QSBR in
    let allows = g.K.ChainRule.allows in
    let seen : Log = g.W.Caller.seen c.args.caller.now in
    let heard : Log = g.W.Caller.heard c.args.caller.now in
    let i = c.self.invariant in
    let learn = ap (λ z. z.0) c.learn.ensures.2 in
    let closed = c.store_closed.ensures.closed in
    let told = c.tell_all-told.ensures.told in
    let before : Log = closed.2.0 in
    let known : Begins c.tell_all-told.result.me.0.seen before = subst (λ (l : Log). Begins l before) (ap (λ (v : View). v.heard) learn) closed.2.3 in
    let queue = ap (λ (v : View). queue_in v.queue) learn ∙ ap (λ (r : QueueRight). queue_in r) i.2.right in
    let log = c.learn-2.ensures.heard ∙ ap (λ z. z.0.seen) c.tell.ensures.4 in
    let here : Closes qsbr allows seen heard c.self.inside.number c.store_closed.new.seat.me.0.seen = record {
      before = before;
      after_caller = (begins_trans seen c.tell_all-told.result.me.0.seen before told.after_seen known, begins_trans heard c.tell_all-told.result.me.0.seen before told.after_heard known);
      wrote = closed.2.1 ∙ ap (λ (n : ℕ). CloseQueue n ∷ before) queue;
      run = closed.2.4;
    } in
    subst (λ (s : Jobs g.row.C.Denot × View × ℕ). Closes qsbr allows seen heard s.2 (g.W.Caller.heard c.learn-2.new.self)) c.self.view_is (subst (Closes qsbr allows seen heard c.self.inside.number) (sym log) here)
