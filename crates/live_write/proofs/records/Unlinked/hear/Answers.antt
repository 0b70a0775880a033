use Rattle.live_write.proofs.Cited.{ap, sym, ◌∙◌, subst, Log, Begins, begins_trans, IsAfter}
use Rattle.live_write.proofs.records.Unlinked.hear.Goals as goal

pub returns-clause-heard : goal.returns-clause-heard
returns-clause-heard g c =
    let seen = g.W.Caller.seen c.args.caller.now in let heard = g.W.Caller.heard c.args.caller.now in let told = c.tell_all-told.ensures.told in
    let caller : Log = c.tell_all-told.result.me.0.seen in let now : Log = c.load_payload.new.seat.me.0.seen in let later = c.load_payload.ensures.looked.2 in
    let after : Begins caller now = subst (λ (l : Log). Begins l now) (ap (λ z. z.0.heard) c.learn.ensures.2) later.1 in
    subst (IsAfter g.P.GracePlan.QSBR g.K.ChainRule.allows seen heard) (sym (c.learn-2.ensures.heard ∙ ap (λ z. z.0.seen) c.tell-heard.ensures.4))
    (record { after_seen = begins_trans seen caller now told.after_seen after; after_heard = begins_trans heard caller now told.after_heard after; run = later.2 })
