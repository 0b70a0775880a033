use Rattle.step_chains.proofs.After.{there_after, reads_own, loaded_next, next_after, may_cut, cut_after}
use Rattle.std.proofs.Common.{refl}
use Rattle.step_chains.proofs.publishing.cut.Goals as goal

pub store_cut-requires-clause-object : goal.store_cut-requires-clause-object
store_cut-requires-clause-object g c =
    let qsbr = g.P.GracePlan.QSBR in let allows = g.K.ChainRule.allows in let old = c.args.seat.now.me in let new = c.load_link-next.new.seat.me in let went = c.load_link-next.ensures.looked in let right = c.requires.right in let named = c.requires.object in
    let there = there_after qsbr allows old.0 old new went right.1 refl c.args.before named.0 named.1 named.2 named.3 in
    let next = loaded_next qsbr allows old new went right.1 right.0 named.1 named.0 c.load_link-next.result named.3 (c.load_link-next.ensures.next named.1 (reads_own qsbr allows old new went right.1 right.0 named.1 named.0 c.args.cell named.3 named.4)) in
    (named.0, named.1, there.0, there.1, next_after qsbr allows old new went right.1 right.0 named.1 c.load_link-next.result next, may_cut qsbr allows old new went right.1 right.0 named.1 named.5)

pub returns-clause-cut : goal.returns-clause-cut
returns-clause-cut g c p o there before is =
    let qsbr = g.P.GracePlan.QSBR in let allows = g.K.ChainRule.allows in let old = c.args.seat.now.me in let new = c.load_link-next.new.seat.me in let went = c.load_link-next.ensures.looked in let right = c.requires.right in
    let now = there_after qsbr allows old.0 old new went right.1 refl c.args.before p o there before in
    let next = loaded_next qsbr allows old new went right.1 right.0 o p c.load_link-next.result before (c.load_link-next.ensures.next o (reads_own qsbr allows old new went right.1 right.0 o p c.args.cell before is)) in
    cut_after qsbr allows old new went right.1 right.0 o p c.load_link-next.result c.store_cut.new.seat.me before next (c.store_cut.ensures.cut p o now.0 now.1)
