use Rattle.rcu.proofs.Cited.{rules, ℕ, inl, inr, subst}
use Rattle.rcu.specs.Keys.{SetsKey}
use Rattle.rcu.proofs.Refused.{exists, hears_both, hears_none, missing}
use Rattle.rcu.proofs.map.Map.set.Goals as goal

pub loop-init : goal.loop-init
loop-init g c = hears_none g.W.Caller c.args.caller.now

pub returns-in-Ok-clause-set : goal.returns-in-Ok-clause-set
returns-in-Ok-clause-set g c =
    subst (λ (v : ℕ). SetsKey g.W.Caller g.P.GracePlan.QSBR g.B.Site.sizes c.args.self.now.table.directory c.args.caller.now c.replace.new.caller c.args.key v g.row.F c.args.self.now.deleter) c.pack-word.ensures
    (c.loop.caller, c.loop.invariant, inr ((_, c.in-Ok.ensures.replaced), c.in-Ok.ensures.same))

pub returns-in-Ok-insert-clause-set : goal.returns-in-Ok-insert-clause-set
returns-in-Ok-insert-clause-set g c =
    let w = g.W.Caller in let d : ℕ = c.args.self.now.table.directory in let was = c.replace.new.caller in
    let i = hears_both w c.args.caller.now c.loop.caller was c.loop.invariant (missing w g.P.GracePlan.QSBR g.B.Site.sizes c.loop.caller was c.in-Err-Missing-default.field-0-0 d c.args.key (search rules) c.in-Err-Missing-default.ensures.refused.1) in
    subst (λ (v : ℕ). SetsKey w g.P.GracePlan.QSBR g.B.Site.sizes d c.args.caller.now c.insert.new.caller c.args.key v g.row.F c.args.self.now.deleter) c.pack-word.ensures
    (was, i, inl (c.in-Ok-insert.ensures.inserted, c.in-Ok-insert.ensures.changes, c.in-Ok-insert.ensures.same))

pub loop-preserved : goal.loop-preserved
loop-preserved g c =
    let w = g.W.Caller in let qsbr = g.P.GracePlan.QSBR in let d : ℕ = c.args.self.now.table.directory in let was = c.replace.new.caller in
    let i = hears_both w c.args.caller.now c.loop.caller was c.loop.invariant (missing w qsbr g.B.Site.sizes c.loop.caller was c.in-Err-Missing-default.field-0-0 d c.args.key (search rules) c.in-Err-Missing-default.ensures.refused.1) in
    hears_both w c.args.caller.now was c.insert.new.caller i (exists w qsbr g.B.Site.sizes was c.insert.new.caller _ d c.args.key (search rules) c.in-Err-Exists.ensures.refused)

pub returns-in-Err-clause-why : goal.returns-in-Err-clause-why
returns-in-Err-clause-why g c = let i = c.loop.invariant in (c.loop.caller, i, inl c.in-Err.ensures.refused.1)

pub returns-in-Err-insert-clause-why : goal.returns-in-Err-insert-clause-why
returns-in-Err-insert-clause-why g c =
    let w = g.W.Caller in let qsbr = g.P.GracePlan.QSBR in let d : ℕ = c.args.self.now.table.directory in let was = c.replace.new.caller in
    let i = hears_both w c.args.caller.now c.loop.caller was c.loop.invariant (missing w qsbr g.B.Site.sizes c.loop.caller was c.in-Err-Missing-default.field-0-0 d c.args.key (search rules) c.in-Err-Missing-default.ensures.refused.1) in
    (was, i, inr c.in-Err-insert.ensures.refused)
