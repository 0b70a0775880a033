use Rattle.live_rule.proofs.Cited.{arith}
use Rattle.live_rule.proofs.Seats.{cuts_spare_queue}
use Rattle.live_rule.proofs.table.LiveTable.cut_spare_queue.Goals as goal

pub split_seat-requires : goal.split_seat-requires
split_seat-requires g c = let laid = c.args.self.now.laid in let s = c.args.self.now.sized.4 in let low = c.requires.1.1 in (c.requires.0, omega arith, cuts_spare_queue g.P.GracePlan.QSBR g.K.ChainRule.allows _ c.args.seat.now.id c.args.seat.now.me.0 (c.requires.1.0, omega arith))
