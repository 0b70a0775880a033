use Rattle.rcu_hash.proofs.Cited.{begins_trans, Log, Begins, IsLinked, Naming, ◌∙◌, sym, subst, rest_later}
use Rattle.rcu_hash.proofs.old_table.OldTable.tell.Goals as goal

pub invariant_of-result : goal.invariant_of-result
invariant_of-result g c =
    let l = c.args.self in let n = l.naming in let h = c.hear.ensures in let linked = subst (λ (m : Naming). IsLinked m.directory m.object c.hear.new.caller.seat.me.0.heard) c.take-place.ensures h.linked in record {
      some = l.some;
      left = l.left;
      replaced = l.replaced;
      rest = rest_later g.P.GracePlan.QSBR n.directory n.object _ _ l.handle.seat.me.0.heard c.hear.new.caller.seat.me.0.heard h.heard.after_heard h.heard.run linked l.rest;
    }

pub returns-clause-linked : goal.returns-clause-linked
returns-clause-linked g c =
    let w = g.W.Caller in let h = c.hear-2.ensures in
    subst (λ (m : Naming). IsLinked m.directory m.object (w.heard c.hear-2.new.caller)) (c.hear.ensures.same.1 ∙ c.take-place.ensures) h.linked

pub returns-clause-rest : goal.returns-clause-rest
returns-clause-rest g c =
    let w = g.W.Caller in let l = c.args.self in let n = l.naming in let one = c.hear.ensures in let two = c.hear-2.ensures in let t : Log = w.heard c.hear-2.new.caller in
    let linked = subst (λ (m : Naming). IsLinked m.directory m.object t) (one.same.1 ∙ c.take-place.ensures) two.linked in
    let goes : Begins c.hear.new.caller.seat.me.0.heard t = subst (λ (s : Log). Begins s t) (sym one.told.1) two.told.0 in
    rest_later g.P.GracePlan.QSBR n.directory n.object _ _ l.handle.seat.me.0.heard t (begins_trans l.handle.seat.me.0.heard c.hear.new.caller.seat.me.0.heard t one.heard.after_heard goes) two.heard.run linked l.rest
