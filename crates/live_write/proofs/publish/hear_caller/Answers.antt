use Rattle.live_write.proofs.Cited.{ap, sym, ◌∙◌, subst, Log, Begins, begins_trans, View, AreAsKnown, IsAfter}
use Rattle.live_write.specs.Calls.{HasLearned}
use Rattle.live_write.proofs.Publishing.{has_learned, heard_alone, hears_caller}
use Rattle.live_write.proofs.publish.hear_caller.Goals as goal

pub returns-clause-chains : goal.returns-clause-chains
returns-clause-chains g c =
    let qsbr = g.P.GracePlan.QSBR in let allows = g.K.ChainRule.allows in let v = c.args.seat.now.me in let w = c.learn.new.seat.me in let seen = g.W.Caller.seen c.args.caller.now in let heard = g.W.Caller.heard c.args.caller.now in
    let hears = hears_caller qsbr allows seen heard v c.load_note.new.seat.me w c.load_note.ensures.looked c.tell_all-told.result.me.0 c.tell_all-told.ensures.told c.learn.ensures.2 in
    ap (λ z. z.0.chains) c.tell-heard.ensures.2 ∙ (ap (λ (u : View). u.chains) c.load_note-2.ensures.looked.1 ∙ hears.chains)

pub returns-clause-told : goal.returns-clause-told
returns-clause-told g c =
    let qsbr = g.P.GracePlan.QSBR in let allows = g.K.ChainRule.allows in let v = c.args.seat.now.me in let w = c.learn.new.seat.me in let n = c.load_note-2.new.seat.me in let seen = g.W.Caller.seen c.args.caller.now in let heard = g.W.Caller.heard c.args.caller.now in
    let hears = hears_caller qsbr allows seen heard v c.load_note.new.seat.me w c.load_note.ensures.looked c.tell_all-told.result.me.0 c.tell_all-told.ensures.told c.learn.ensures.2 in
    let later = c.load_note-2.ensures.looked.2 in
    subst (λ (l : Log). IsAfter qsbr allows seen heard l × Begins v.0.seen l × Begins v.0.heard l) (ap (λ z. z.0.seen) (sym c.tell-heard.ensures.2)) (
      record {
        after_seen = begins_trans seen w.0.heard n.0.seen hears.of_caller.0 later.1;
        after_heard = begins_trans heard w.0.heard n.0.seen hears.of_caller.1 later.1;
        run = later.2;
      },
      begins_trans v.0.seen w.0.seen n.0.seen hears.of_writer.0 later.0,
      begins_trans v.0.heard w.0.seen n.0.seen hears.of_writer.1 later.0,
    )

pub returns-clause-known : goal.returns-clause-known
returns-clause-known g c =
    let same = c.tell-heard.ensures.2 in
    subst (λ (l : Log). AreAsKnown l c.tell-heard.new.seat.me.0.chains) (ap (λ z. z.0.seen) (sym same))
    (subst (AreAsKnown c.load_note-2.new.seat.me.0.seen) (sym (ap (λ z. z.0.chains) same ∙ ap (λ (u : View). u.chains) c.load_note-2.ensures.looked.1)) c.load_note-2.ensures.known.0.0)

pub returns-clause-learned : goal.returns-clause-learned
returns-clause-learned g c =
    let qsbr = g.P.GracePlan.QSBR in let allows = g.K.ChainRule.allows in let v = c.args.seat.now.me in let w = c.learn.new.seat.me in let t = c.tell_all-told.result.me.0 in
    let alone = heard_alone qsbr allows (g.W.Caller.seen c.args.caller.now) (g.W.Caller.heard c.args.caller.now) v c.load_note.new.seat.me w c.load_note.ensures.looked t (ap (λ z. z.0.looks) c.tell_all-told.ensures.seat.1) c.learn.ensures.2 in
    let now = c.load_note-2.ensures.looked in let f = c.load_note.new.seat.me.0 in
    subst (λ z. HasLearned v.0 z.0) (sym c.tell-heard.ensures.2) (has_learned v.0 w.0 c.load_note-2.new.seat.me.0 f.seen t.seen t.loads alone now.1 now.2.1)
