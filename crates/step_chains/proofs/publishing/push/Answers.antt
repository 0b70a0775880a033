use Rattle.std.proofs.Common.{◌+◌}
use Rattle.step_chains.proofs.After.{may_push, pushed_after}
use Rattle.step_chains.proofs.publishing.push.Goals as goal

pub store_push-requires-clause-rule : goal.store_push-requires-clause-rule
store_push-requires-clause-rule g c = may_push g.P.GracePlan.QSBR g.K.ChainRule.allows c.args.head c.args.seat.now.me c.store_link.new.seat.me c.store_link.ensures.linked.0 c.requires.rule

pub returns-clause-pushed : goal.returns-clause-pushed
returns-clause-pushed g c = let told = c.store_push.ensures.pushed in
    (pushed_after g.P.GracePlan.QSBR g.K.ChainRule.allows c.args.head c.args.seat.now.me c.store_link.new.seat.me c.store_link.ensures.linked.0 (c.args.cell + 1) c.store_push.new.seat.me told.0, told.1)
