-- What each turn of the loop keeps, and what the last one leaves.
use Rattle.std.proofs.Common.{rules, ◌≡◌}
use Rattle.live_waits.specs.declared.period.Progress.TheVariants.{Done}
use Rattle.live_waits.proofs.period.grace_period.Goals as goal

pub returns-in-Done-clause-right : goal.returns-in-Done-clause-right
returns-in-Done-clause-right g c = let w = c.turn.ensures.whole c.args.seat.now.me c.in-Done.is c.loop.invariant.4 in (w.0, w.1)

pub returns-in-Done-clause-plan : goal.returns-in-Done-clause-plan
returns-in-Done-clause-plan g c = (c.turn.ensures.whole c.args.seat.now.me c.in-Done.is c.loop.invariant.4).3

pub loop-preserved-in-Going : goal.loop-preserved-in-Going
loop-preserved-in-Going g c = let not = λ (e : c.turn.result ≡ Done). absurd cc in let inv = c.loop.invariant in
    (search rules, search rules, search rules, search rules, c.turn.ensures.going c.args.seat.now.me not inv.4)

pub loop-preserved : goal.loop-preserved
loop-preserved g c = let not = λ (e : c.turn.result ≡ Done). absurd cc in let inv = c.loop.invariant in
    (search rules, search rules, search rules, search rules, c.turn.ensures.going c.args.seat.now.me not inv.4)
