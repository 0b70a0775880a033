use Rattle.std.proofs.Common.{◌∙◌}
use Rattle.live_read.proofs.Leaving.{given_back}
use Rattle.live_read.proofs.reader_core.ReaderCore.give_back.Goals as goal

pub returns-clause-given : goal.returns-clause-given
returns-clause-given g c = given_back g.P.GracePlan.QSBR g.K.ChainRule.allows c.args.self c.end.new.self c.end.ensures.ends c.release.new.seat c.args.self.seated.2 (c.release.ensures.seat.0 ∙ c.end.ensures.table.0) c.release.ensures.released
