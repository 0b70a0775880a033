use Rattle.live_callbacks.proofs.Cited.{◌≡◌, sym, ◌∙◌, arith, nat_tests, closed_stays}
use Rattle.live_callbacks.proofs.Looking.{later_twice, looked_twice}
use Rattle.live_callbacks.proofs.work.is_emptied.Goals as goal

pub returns-then-closed-eq1-clause-seat : goal.returns-then-closed-eq1-clause-seat
returns-then-closed-eq1-clause-seat g c =
    let x = c.load_closed-closed.ensures in
    let y = c.load_queued-queued.ensures in
    ((y.seat.0 ∙ x.seat.0, y.seat.1 ∙ x.seat.1), y.looked.0 ∙ x.looked.0, looked_twice g.P.GracePlan.QSBR g.K.ChainRule.allows _ _ _ _ _ _ _ x.looked y.looked)

pub returns-then-closed-eq1-clause-later : goal.returns-then-closed-eq1-clause-later
returns-then-closed-eq1-clause-later g c = later_twice g.P.GracePlan.QSBR g.K.ChainRule.allows _ _ _ _ _ _ _ c.load_closed-closed.ensures.looked c.load_queued-queued.ensures.looked

pub returns-then-closed-eq1-clause-emptied : goal.returns-then-closed-eq1-clause-emptied
returns-then-closed-eq1-clause-emptied g c same =
    let x = c.load_closed-closed.ensures in
    let y = c.load_queued-queued.ensures in
    let is : c.load_queued-queued.result ≡ c.args.finished = grind (arith, nat_tests) in
    ((closed_stays g.P.GracePlan.QSBR g.K.ChainRule.allows c.load_closed-closed.new.seat.me.0.seen c.load_queued-queued.new.seat.me.0.seen c.args.queue y.looked.2.0 y.looked.2.2 (sym x.closed ∙ c.if-closed-eq1.true)).0, sym y.count.0 ∙ is)

pub returns-else-closed-eq1-clause-seat : goal.returns-else-closed-eq1-clause-seat
returns-else-closed-eq1-clause-seat g c =
    let x = c.load_closed-closed.ensures in
    let y = c.load_queued-queued.ensures in
    ((y.seat.0 ∙ x.seat.0, y.seat.1 ∙ x.seat.1), y.looked.0 ∙ x.looked.0, looked_twice g.P.GracePlan.QSBR g.K.ChainRule.allows _ _ _ _ _ _ _ x.looked y.looked)

pub returns-else-closed-eq1-clause-later : goal.returns-else-closed-eq1-clause-later
returns-else-closed-eq1-clause-later g c = later_twice g.P.GracePlan.QSBR g.K.ChainRule.allows _ _ _ _ _ _ _ c.load_closed-closed.ensures.looked c.load_queued-queued.ensures.looked
