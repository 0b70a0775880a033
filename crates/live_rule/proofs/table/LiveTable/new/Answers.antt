use Rattle.live_rule.proofs.Cited.{rules, ◌+◌, ◌*◌, refl}
use Rattle.live_rule.proofs.Seats.{starts_zero}
use Rattle.live_rule.proofs.table.LiveTable.new.Goals as goal

pub of_words-requires : goal.of_words-requires
of_words-requires g c = starts_zero g.P.GracePlan.QSBR g.K.ChainRule.allows _ c.as_slice.result.now (16 * c.args.slots + 8 * c.args.chains + 32 * c.args.queues + 6 * c.args.pool + 96) c.requires.0 refl (search rules)
