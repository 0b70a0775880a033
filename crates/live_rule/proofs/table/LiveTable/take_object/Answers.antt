use Rattle.live_rule.proofs.Cited.{arith}
use Rattle.live_rule.proofs.Seats.{takes_object}
use Rattle.live_rule.proofs.table.LiveTable.take_object.Goals as goal

pub join_seat-requires : goal.join_seat-requires
join_seat-requires g c = let laid = c.args.self.now.laid in let t = c.requires in let me = c.args.seat.now in let u = c.args.other in
    (t.0, t.1, t.2, omega arith, takes_object g.P.GracePlan.QSBR g.K.ChainRule.allows _ me.id me.me.0 u.id u.me.0)
