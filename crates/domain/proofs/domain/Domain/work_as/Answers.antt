use Rattle.domain.proofs.Cited.{List, ◌++◌, sym, ap, ◌∙◌, subst, IfErr-weaker, IfOk-weaker, Log, Begins, IsLiveRun, View}
use Rattle.domain.specs.Working.{HasWorked, Looks}
use Rattle.domain.proofs.Running.{worked_for}
use Rattle.domain.proofs.domain.Domain.work_as.Goals as goal

pub employ-end-requires-clause-fresh : goal.employ-end-requires-clause-fresh
employ-end-requires-clause-fresh g c = ap (λ m. m.0.looks) c.tell-seat.ensures.seat.1

pub returns-clause-worked : goal.returns-clause-worked
returns-clause-worked g c =
    let qsbr = g.P.GracePlan.QSBR in
    let allows = g.K.ChainRule.allows in
    let key = g.B.Site.sizes in
    let q = c.args.queue in
    let w = g.W.Caller in
    let old = c.args.caller.now in
    let new = c.learn.new.self in
    let told : View = c.tell-seat.result.me.0 in
    let seat : View = c.employ-end.new.seat.me.0 in
    let same = c.tell-seat.ensures.same in
    let learned = c.learn.ensures in
    IfOk-weaker c.employ-end.result _ _ (λ e h. subst (λ (l : Log). HasWorked g.row.D.coded.code g.D.Deleter.answers qsbr allows key q (w.seen old) (w.heard old) (w.looks old) (w.looks new) (w.loads old) (w.loads new) e.finished.items e.left.items e.stop l) (sym learned.heard)
    (worked_for g.row.D.coded.code g.D.Deleter.answers qsbr allows key key q (w.seen old) (w.heard old) told (w.looks new) seat.looks (w.looks old) (w.loads new) seat.loads (w.loads old) e.finished.items e.left.items e.stop seat.seen
    (ap (λ m. m.0) c.tell-seat.ensures.seat.1)
    (learned.loads.1 ∙ ap (λ (l : Looks). seat.looks ++ l) same.3)
    (learned.loads.0 ∙ ap (λ (l : List Log). seat.loads ++ l) same.2)
    h)) c.employ-end.ensures.worked

pub returns-clause-heard : goal.returns-clause-heard
returns-clause-heard g c =
    let told : View = c.tell-seat.result.me.0 in
    let heard : Log = g.W.Caller.heard c.learn.new.self in
    let same = c.learn.ensures.heard in
    let is = c.tell-seat.ensures.seat.1 in
    IfErr-weaker c.employ-end.result _ _ (λ _ h low. let x = h low in record {
      after_seen = subst (λ (l : Log). Begins l heard) (ap (λ m. m.0.seen) is) (subst (Begins told.seen) (sym same) x.0);
      after_heard = subst (λ (l : Log). Begins l heard) (ap (λ m. m.0.heard) is) (subst (Begins told.heard) (sym same) x.1);
      run = subst (IsLiveRun g.P.GracePlan.QSBR g.K.ChainRule.allows) (sym same) x.2;
    }) c.employ-end.ensures.later
