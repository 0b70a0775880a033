use Rattle.live_callbacks.proofs.Cited.{◌≡◌, ℕ, [], ◌∷◌, refl, sym, ap, ◌∙◌, subst, ObjectId, Object, Queue, Retire, Log, Begins, begins_trans, View, Precedes, object_in, queue_in, queued_in, IsLast}
use Rattle.live_callbacks.specs.Retiring.{Queues}
use Rattle.live_callbacks.proofs.retiring.queue_object.Goals as goal

pub returns-clause-queued : goal.returns-clause-queued
returns-clause-queued g c =
    let qsbr = g.P.GracePlan.QSBR in
    let allows = g.K.ChainRule.allows in
    let first : View = c.args.unlinked.me.0 in
    let second : View = c.load_number-number.new.seat.me.0 in
    let third : View = c.store_retire.new.seat.me.0 in
    let joined : View = c.take_object.new.seat.me.0 in
    let looked = c.load_number-number.ensures.looked in
    let retired = c.store_retire.ensures.retired in
    let taken = ap (λ z. z.0) c.take_object.ensures.2 in
    let queued = c.store_queued.ensures.queued in
    let o : ObjectId = object_in first.object in
    let kept : object_in second.object ≡ o = ap (λ (z : View). object_in z.object) looked.1 in
    let same : object_in joined.object ≡ o = ap (λ (z : View). object_in z.object) taken ∙ (ap (λ (z : View). object_in z.object) retired.1 ∙ kept) in
    let queue : queue_in joined.queue ≡ c.args.queue = ap (λ (z : View). queue_in z.queue) taken ∙ c.requires.lock.1 in
    let given : queued_in joined.queue ≡ c.args.given = ap (λ (z : View). queued_in z.queue) taken ∙ c.requires.lock.3 in
    let before : Log = retired.2.0 in
    let within : Log = queued.2.0 in
    let log : Log = c.store_queued.new.seat.me.0.seen in
    let heard : Begins third.seen within = subst (λ (l : Log). Begins l within) (ap (λ (z : View). z.heard) taken) queued.2.3 in
    let at_retire : Begins (Object (Retire (object_in second.object)) ∷ before) within = subst (λ (l : Log). Begins l within) retired.2.1 heard in
    let cut = ap (λ z. z.0.seen) c.cut_object.ensures.2 in
    let told : Queues qsbr allows (Precedes first) o c.args.queue c.args.given c.args.callback.now.code log = record {
      before = before;
      at = (begins_trans first.seen second.seen before looked.2.0 retired.2.2, begins_trans first.heard second.seen before looked.2.1 retired.2.2);
      within = within;
      retired = subst (λ (p : ObjectId). Begins (Object (Retire p) ∷ before) within) kept at_retire;
      id = c.args.callback.now;
      is = refl;
      wrote = queued.2.1 ∙ (λ i. Object (Queue (same i) (queue i) c.args.callback.now) ∷ within);
      last = subst (λ (n : ℕ). IsLast c.args.queue n o log) given (subst (λ (p : ObjectId). IsLast c.args.queue (queued_in joined.queue) p log) same c.store_queued.ensures.last);
      run = queued.2.4;
    } in
    subst (Queues qsbr allows (Precedes first) o c.args.queue c.args.given c.args.callback.now.code) (sym cut) told

pub returns-clause-same : goal.returns-clause-same
returns-clause-same g c = ap (λ z. z.0.seen) c.cut_object.ensures.4 ∙ sym (ap (λ z. z.0.seen) c.cut_object.ensures.2)

pub returns-clause-later : goal.returns-clause-later
returns-clause-later g c =
    let taken = ap (λ z. z.0.seen) c.take_object.ensures.2 in
    let queued = c.store_queued.ensures.queued in
    let event = Object (Queue (object_in c.take_object.new.seat.me.0.object) (queue_in c.take_object.new.seat.me.0.queue) c.args.callback.now) in
    let within : Begins c.args.lock.now.me.0.seen queued.2.0 = subst (λ (l : Log). Begins l queued.2.0) taken queued.2.2 in
    subst (Begins c.args.lock.now.me.0.seen) (sym queued.2.1 ∙ sym (ap (λ z. z.0.seen) c.cut_object.ensures.2)) (begins_trans c.args.lock.now.me.0.seen queued.2.0 (event ∷ queued.2.0) within (event ∷ [], refl))
