use Rattle.rcu.proofs.Cited.{Gv, ℕ, List, ◌∙◌, ◌%◌, ap, refl, rules, subst}
use Rattle.rcu.specs.Slots.{PushesValue, ReplacesValue}
use Rattle.rcu.proofs.Putting.{if_none, if_some, pushes_after, replaces_after}
use Rattle.rcu.proofs.Refused.{in_vain, tries_more, tries_none}
use Rattle.rcu.proofs.slot.Slot.replace.Goals as goal

pub returns-in-Ok-clause-pushed : goal.returns-in-Ok-clause-pushed
returns-in-Ok-clause-pushed g c =
    let w = g.W.Caller in let i = c.loop.invariant in let old = c.args.caller.now in let was = c.loop.caller in let new = c.try_replace.new.caller in
    let chain : ℕ = c.args.self.now.chain in let words : List ℕ = g.T.Words.packed c.args.value in
    if_none c.in-Ok.ticket (PushesValue w g.P.GracePlan.QSBR was new chain words) (PushesValue w g.P.GracePlan.QSBR old new chain words) (pushes_after w g.P.GracePlan.QSBR old was new chain words i.1.stays i.1.later) c.in-Ok.ensures.pushed

pub returns-in-Ok-clause-replaced : goal.returns-in-Ok-clause-replaced
returns-in-Ok-clause-replaced g c =
    let w = g.W.Caller in let i = c.loop.invariant in let old = c.args.caller.now in let was = c.loop.caller in let new = c.try_replace.new.caller in
    let chain : ℕ = c.args.self.now.chain in let words : List ℕ = g.T.Words.packed c.args.value in let queue : ℕ = chain % g.B.Site.sizes.queues in
    let mine : Gv = g.row.D.coded.code c.loop.callback in let code : Gv = g.row.D.coded.code c.args.callback in
    if_some c.in-Ok.ticket (λ t. ReplacesValue w g.P.GracePlan.QSBR was new chain words queue t.0 mine) (λ t. ReplacesValue w g.P.GracePlan.QSBR old new chain words queue t.0 code)
    (λ t r. subst (ReplacesValue w g.P.GracePlan.QSBR old new chain words queue t.0) (ap g.row.D.coded.code i.0) (replaces_after w g.P.GracePlan.QSBR old was new chain words i.1.stays i.1.later queue t.0 mine r)) c.in-Ok.ensures.replaced

pub returns-in-Ok-clause-took : goal.returns-in-Ok-clause-took
returns-in-Ok-clause-took g c = (c.loop.caller, c.loop.invariant.1, c.in-Ok.ensures.took)

pub loop-init : goal.loop-init
loop-init g c = (refl, tries_none g.W.Caller g.B.Site.sizes c.args.self.now.chain c.args.caller.now)

pub loop-preserved : goal.loop-preserved
loop-preserved g c =
    let w = g.W.Caller in let i = c.loop.invariant in let e = c.in-Err-Busy-default.ensures in let was = c.loop.caller in let new = c.try_replace.new.caller in let chain : ℕ = c.args.self.now.chain in
    let vain = in_vain w g.P.GracePlan.QSBR g.B.Site.sizes was new c.in-Err-Busy-default.field-0-0 chain (search rules) e.why in
    (e.back.0 ∙ i.0, tries_more w g.B.Site.sizes chain c.args.caller.now was new i.1 e.back.1 e.heard.after_heard vain)
