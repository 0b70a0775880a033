use Rattle.rcu_hash.proofs.Cited.{tabled, IsRest, IsAfter, sym, subst}
use Rattle.rcu_hash.proofs.table.RcuHash.set_down.Goals as goal

pub invariant_of-result : goal.invariant_of-result
invariant_of-result g c =
    let n = c.args.naming in let h = c.hear.ensures in
    let rest = c.requires.rest (g.W.Caller.heard c.hear.new.caller) h.heard.after_heard h.heard.run h.linked in record {
      some = c.requires.some;
      left = c.requires.chains;
      replaced = c.requires.record;
      rest = subst (IsRest n.directory n.object _ _) (sym c.split-handle.ensures.told.1) rest;
    }

pub returns-clause-rest : goal.returns-clause-rest
returns-clause-rest g c =
    let n = c.args.naming in let h = c.hear.ensures in
    subst (IsRest n.directory n.object _ _) (sym c.split-handle.ensures.same.1) (c.requires.rest (g.W.Caller.heard c.hear.new.caller) h.heard.after_heard h.heard.run h.linked)

pub returns-clause-heard : goal.returns-clause-heard
returns-clause-heard g c =
    let w = g.W.Caller in let w0 = c.args.caller.now in subst (IsAfter g.P.GracePlan.QSBR tabled (w.seen w0) (w.heard w0)) (sym c.split-handle.ensures.same.1) c.hear.ensures.heard
