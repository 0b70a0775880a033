use Rattle.live_rule.proofs.Cited.{arith}
use Rattle.live_rule.proofs.Seats.{cuts_lent}
use Rattle.live_rule.proofs.table.LiveTable.cut_lent_chains.Goals as goal

pub split_seat-requires : goal.split_seat-requires
split_seat-requires g c = let laid = c.args.self.now.laid in (c.requires, omega arith, cuts_lent g.P.GracePlan.QSBR g.K.ChainRule.allows _ c.args.seat.now.id c.args.seat.now.me.0)
