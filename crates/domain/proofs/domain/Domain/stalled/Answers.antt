use Rattle.domain.proofs.Cited.{rules, ◌≡◌, List, ◌++◌, sym, ap, ◌∙◌, subst, Log, Sizes, View, Looks, Stalls}
use Rattle.domain.proofs.Stalls.{stalls_for}
use Rattle.domain.proofs.domain.Domain.stalled.Goals as goal

pub returns-clause-told : goal.returns-clause-told
returns-clause-told g c =
    let qsbr = g.P.GracePlan.QSBR in
    let allows = g.K.ChainRule.allows in
    let key = g.B.Site.sizes in
    let w = g.W.Caller in
    let old = c.args.caller.now in
    let new = c.learn.new.self in
    let told : View = c.tell-seat.result.me.0 in
    let seat : View = c.stalled.new.seat.me.0 in
    let same = c.tell-seat.ensures.same in
    let learned = c.learn.ensures in
    let sizes : c.deref-2.result.now.words.shared.key ≡ key = search rules in
    subst (λ (l : Log). Stalls qsbr allows key (w.seen old) (w.heard old) (w.loads old) (w.loads new) (w.looks old) (w.looks new) c.in_ok-slots.slots.items l) (sym learned.heard)
    (stalls_for qsbr allows key key (w.seen old) (w.heard old) told (w.loads old) seat.loads (w.loads new) (w.looks old) seat.looks (w.looks new) c.in_ok-slots.slots.items seat.seen
    (ap (λ m. m.0) c.tell-seat.ensures.seat.1)
    (learned.loads.0 ∙ ap (λ (l : List Log). seat.loads ++ l) same.2)
    (learned.loads.1 ∙ ap (λ (l : Looks). seat.looks ++ l) same.3)
    (subst (λ (k : Sizes). Stalls qsbr allows k told.seen told.heard told.loads seat.loads told.looks seat.looks c.in_ok-slots.slots.items seat.seen) sizes c.in_ok-slots.ensures.told))
