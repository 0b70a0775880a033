use Rattle.live_write.proofs.Cited.{◌∷◌, ◌++◌, ◌∙◌, sym, ap, subst, Me, Begins, Log, CallbackId, View, begins_trans, IsAfter}
use Rattle.live_write.proofs.allocation.discard.Goals as goal

pub returns-clause-heard : goal.returns-clause-heard
returns-clause-heard g c = let s = c.store_discard.ensures.discarded.2 in let l = c.load_seq.ensures.looked.1 in let told = c.tell-told.ensures.seat.1 in
    let log : Log = c.store_discard.new.seat.me.0.seen in let loaded : Log = c.load_seq.new.seat.me.0.seen in let joined = c.take_object.ensures.2 in
    let seen : Log = g.W.Caller.seen c.args.caller.now in let heard : Log = g.W.Caller.heard c.args.caller.now in let own : Log = c.args.owned.seat.me.0.seen in
    let before : Begins loaded log = subst (λ (x : Log). Begins x log) (ap (λ (m : Me CallbackId View). m.0.seen) joined) s.0 in
    let beside : Begins own log = subst (λ (x : Log). Begins x log) (ap (λ (m : Me CallbackId View). m.0.heard) joined) s.1 in
    let first : Begins seen loaded = subst (λ (x : Log). Begins x loaded) (ap (λ (m : Me CallbackId View). m.0.seen) told) (subst (λ (x : Log). Begins c.tell-told.result.me.0.seen x) (sym l.1) l.2) in
    let second : Begins heard loaded = subst (λ (x : Log). Begins x loaded) (ap (λ (m : Me CallbackId View). m.0.heard) told) (subst (λ (x : Log). Begins c.tell-told.result.me.0.heard x) (sym l.1) l.3) in
    subst (λ (x : Log). IsAfter g.P.GracePlan.QSBR g.K.ChainRule.allows seen heard x × Begins own x) (sym c.learn.ensures.heard)
    (record { after_seen = begins_trans seen loaded log first before; after_heard = begins_trans heard loaded log second before; run = s.2 }, beside)

pub returns-clause-loads : goal.returns-clause-loads
returns-clause-loads g c = let s = c.store_discard.ensures.discarded in let l = c.load_seq.ensures.looked in let told = c.tell-told.ensures.seat.1 in
    let log : Log = c.store_discard.new.seat.me.0.seen in let loaded : Log = c.load_seq.new.seat.me.0.seen in let joined = c.take_object.ensures.2 in
    let seen : Log = g.W.Caller.seen c.args.caller.now in let heard : Log = g.W.Caller.heard c.args.caller.now in
    let before : Begins loaded log = subst (λ (x : Log). Begins x log) (ap (λ (m : Me CallbackId View). m.0.seen) joined) s.2.0 in
    let first : Begins seen loaded = subst (λ (x : Log). Begins x loaded) (ap (λ (m : Me CallbackId View). m.0.seen) told) (subst (λ (x : Log). Begins c.tell-told.result.me.0.seen x) (sym l.1.1) l.1.2) in
    let second : Begins heard loaded = subst (λ (x : Log). Begins x loaded) (ap (λ (m : Me CallbackId View). m.0.heard) told) (subst (λ (x : Log). Begins c.tell-told.result.me.0.heard x) (sym l.1.1) l.1.3) in
    let own = ap (λ (v : View). v.loads) s.1 ∙ (ap (λ (m : Me CallbackId View). m.0.loads) joined ∙ (ap (λ (m : Me CallbackId View). m.0.loads) l.0 ∙ ap (λ (m : Me CallbackId View). loaded ∷ m.0.loads) told)) in
    let told_loads = c.learn.ensures.loads.0 in let kept = c.tell-told.ensures.same.2 in (
      loaded,
      told_loads ∙ (λ i. own i ++ kept i),
      record { after_seen = first; after_heard = second; run = l.1.4 },
      subst (Begins loaded) (sym c.learn.ensures.heard) before,
    )
