use Rattle.step_chains.proofs.Cited.{◌+◌, refl, linked_view}
use Rattle.step_chains.proofs.After.{there_after, link_after, may_replace, replaced_after}
use Rattle.step_chains.proofs.publishing.replace.Goals as goal

pub store_replace-requires-clause-object : goal.store_replace-requires-clause-object
store_replace-requires-clause-object g c =
    let qsbr = g.P.GracePlan.QSBR in let allows = g.K.ChainRule.allows in let old = c.args.seat.now.me in let new = c.store_link.new.seat.me in let went = c.store_link.ensures.linked.0 in let listed = c.requires.right.1 in let named = c.requires.object in
    let there = there_after qsbr allows (linked_view c.args.next old.0) old new went listed refl c.args.before named.0 named.1 named.2 named.3 in
    (named.0, named.1, there.0, there.1, link_after qsbr allows c.args.next old new went listed named.1 named.4, may_replace qsbr allows c.args.next old new went listed named.1 named.5)

pub returns-clause-replaced : goal.returns-clause-replaced
returns-clause-replaced g c p o there before =
    let qsbr = g.P.GracePlan.QSBR in let allows = g.K.ChainRule.allows in let old = c.args.seat.now.me in let new = c.store_link.new.seat.me in let went = c.store_link.ensures.linked.0 in let listed = c.requires.right.1 in
    let now = there_after qsbr allows (linked_view c.args.next old.0) old new went listed refl c.args.before p o there before in
    replaced_after qsbr allows c.args.next old new went listed p o (c.args.cell + 1) c.store_replace.new.seat.me before (c.store_replace.ensures.replaced p o now.0 now.1)
