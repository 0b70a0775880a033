use Rattle.live_callbacks.proofs.Cited.{Gv, ◌≡◌, ℕ, ◌+◌, ◌∷◌, inl, refl, sym, ap, ◌∙◌, subst, ObjectId, Item, given_of, pushed, with_place, Object, Queue, Log, Begins, Has, WasQueued, begins_trans, View, Owns, Precedes, object_in, IsLast}
use Rattle.live_callbacks.specs.Items.{JobValue, Jobs, IsUnderLock}
use Rattle.live_callbacks.specs.Retiring.{IsAfterAll, Queues}
use Rattle.live_callbacks.proofs.Orders.{under_place, under_pushed}
use Rattle.live_callbacks.proofs.Retirings.{queues_as}
use Rattle.live_callbacks.proofs.items.Items.retire.Goals as goal

pub invariant_of-self-2 : goal.invariant_of-self-2
invariant_of-self-2 g c =
    let key = g.B.Site.sizes in
    let q : ℕ = c.self.inside.number in
    let jobs : Jobs g.row.C.Denot = c.self.inside.queue in
    let old : View = c.self.inside.seat.me.0 in
    let new : View = c.queue_object-seat.new.lock.me.0 in
    let i = c.self.invariant in
    let lock = c.queue_object-seat.ensures.lock in
    let queued = c.queue_object-seat.ensures.queued in
    let same = c.queue_object-seat.ensures.same in
    let told = c.tell.ensures in
    let reserved = c.in-Ok.ensures.ok in
    let put = c.in-Ok-push.ensures.ok in
    let given = c.given-given.ensures in
    let o : ObjectId = object_in c.learn.new.seat.me.0.object in
    let item : Item (JobValue g.row.C.Denot) = record { object = record { 0 = c.queue_object-seat.result.1 }; job = c.of.result } in
    let named : item.object ≡ o = λ j. record { 0 = c.queue_object-seat.ensures.number.0 j } in
    let run : object_in item.job.0.object ≡ o = ap (λ (z : JobValue g.row.C.Denot). object_in z.0.object) c.of.ensures ∙ ap object_in c.queue_object-seat.ensures.job.3 in
    let last : IsLast q (given_of jobs) item.object new.seen = subst (λ (n : ℕ). IsLast q n item.object new.seen) given (subst (λ (p : ObjectId). IsLast q c.given-given.result p new.seen) (sym named) queued.last) in
    let seen = ap (λ (z : JobValue g.row.C.Denot). z.0.seen) c.of.ensures ∙ (same ∙ queued.wrote) in
    let noted : WasQueued item.object q item.job.3 item.job.0.seen = (
      queued.id,
      queued.is ∙ (c.id-id.ensures ∙ sym (ap (λ (z : JobValue g.row.C.Denot). z.3) c.of.ensures)),
      subst (Has (Object (Queue item.object q queued.id))) (sym seen) (subst (λ (p : ObjectId). Has (Object (Queue p q queued.id)) (Object (Queue o q queued.id) ∷ queued.within)) (sym named) (inl refl)),
    ) in
    let under = under_pushed key (with_place jobs) old new q (under_place key jobs old q i.2) lock.2 c.queue_object-seat.ensures.later item
    (ap (λ (j : Jobs g.row.C.Denot). j.closed) (sym reserved) ∙ put.0) (lock.3 ∙ ap (λ (n : ℕ). Owns q (n + 1) 0) given) lock.4 last
    (ap (λ (z : JobValue g.row.C.Denot). z.0.seen) c.of.ensures ∙ same) (named ∙ sym run) noted in (
      told.0 ∙ (lock.0.0 ∙ i.0),
      ap (λ z. z.1) told.2 ∙ (lock.1 ∙ i.1),
      subst (λ (v : View). IsUnderLock key c.push.new.self v q) (sym (ap (λ z. z.0) told.2))
          (subst (λ (j : Jobs g.row.C.Denot). IsUnderLock key j new q) (sym (put.2 ∙ ap (λ (j : Jobs g.row.C.Denot). pushed j item) reserved)) under),
    )

pub returns-clause-retired : goal.returns-clause-retired
returns-clause-retired g c =
    let qsbr = g.P.GracePlan.QSBR in
    let allows = g.K.ChainRule.allows in
    let cut : Log = c.args.unlinked.seat.me.0.seen in
    let seen : Log = g.W.Caller.seen c.args.caller.now in
    let heard : Log = g.W.Caller.heard c.args.caller.now in
    let learned : View = c.learn.new.seat.me.0 in
    let new : Log = c.queue_object-seat.new.lock.me.0.seen in
    let parts = ap (λ z. z.me.0) c.into_parts-seat.ensures.seat.0 in
    let learn = ap (λ z. z.0) c.learn.ensures.2 in
    let told = c.tell_all-told.ensures.told in
    let after : (before : Log) → Precedes learned before → IsAfterAll cut seen heard before = λ before b.
    let known : Begins c.tell_all-told.result.me.0.seen before = subst (λ (l : Log). Begins l before) (ap (λ (v : View). v.heard) learn) b.1 in (
      subst (λ (l : Log). Begins l before) (ap (λ (v : View). v.seen) learn ∙ ap (λ (v : View). v.seen) parts) b.0,
      begins_trans seen c.tell_all-told.result.me.0.seen before told.after_seen known,
      begins_trans heard c.tell_all-told.result.me.0.seen before told.after_heard known,
    ) in
    let o = ap (λ (v : View). object_in v.object) learn ∙ ap (λ (v : View). object_in v.object) parts in
    let is = IsAfterAll cut seen heard in
    let first = queues_as qsbr allows (Precedes learned) is (object_in learned.object) c.self.inside.number c.given-given.result c.id-id.result.code new after c.queue_object-seat.ensures.queued in
    let second = subst (λ (p : ObjectId). Queues qsbr allows is p c.self.inside.number c.given-given.result c.id-id.result.code new) o first in
    let third = subst (λ (n : ℕ). Queues qsbr allows is (object_in c.args.unlinked.seat.me.0.object) c.self.inside.number n c.id-id.result.code new) c.given-given.ensures second in
    let code = c.id-id.ensures ∙ c.of-identity.ensures.1 in
    let coded = subst (λ (i : Gv). Queues qsbr allows is (object_in c.args.unlinked.seat.me.0.object) c.self.inside.number (given_of c.self.inside.queue) i new) code third in
    let callback : Gv = g.row.C.coded.code c.args.callback in
    let log = c.learn-2.ensures.heard ∙ ap (λ z. z.0.seen) c.tell.ensures.4 in
    let fourth = subst (λ (l : Log). Queues qsbr allows is (object_in c.args.unlinked.seat.me.0.object) c.self.inside.number (given_of c.self.inside.queue) callback l) (sym log) coded in
    subst (λ (s : Jobs g.row.C.Denot × View × ℕ). Queues qsbr allows is (object_in c.args.unlinked.seat.me.0.object) s.2 (given_of s.0) callback (g.W.Caller.heard c.learn-2.new.self)) c.self.view_is fourth

pub returns-clause-pushed : goal.returns-clause-pushed
returns-clause-pushed g c =
    let item : Item (JobValue g.row.C.Denot) = record { object = record { 0 = c.queue_object-seat.result.1 }; job = c.of.result } in
    let learn = ap (λ z. z.0) c.learn.ensures.2 in
    let parts = ap (λ z. z.me.0) c.into_parts-seat.ensures.seat.0 in
    let given : item.object ≡ object_in c.learn.new.seat.me.0.object = λ j. record { 0 = c.queue_object-seat.ensures.number.0 j } in
    let named = given ∙ (ap (λ (v : View). object_in v.object) learn ∙ ap (λ (v : View). object_in v.object) parts) in
    let put = c.in-Ok-push.ensures.ok.2 ∙ ap (λ (j : Jobs g.row.C.Denot). pushed j item) c.in-Ok.ensures.ok in
    let here = put ∙ ap (λ (s : Jobs g.row.C.Denot × View × ℕ). pushed (with_place s.0) item) c.self.view_is in
    (c.of.result, ap (λ (z : JobValue g.row.C.Denot). z.2) c.of.ensures, here ∙ ap (λ (o : ObjectId). pushed (with_place c.args.self.now.0) (record { object = o; job = c.of.result })) named)
