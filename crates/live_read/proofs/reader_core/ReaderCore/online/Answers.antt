use Rattle.std.proofs.Common.{rules, refl}
use Rattle.live_read.proofs.Entering.{goes_online}
use Rattle.live_read.proofs.reader_core.ReaderCore.online.Goals as goal

pub returns-clause-ok : goal.returns-clause-ok
returns-clause-ok g c = let w = c.online-word.ensures in goes_online g.P.GracePlan.QSBR g.K.ChainRule.allows c.args.self.now _ (search rules) (search rules) refl refl refl w.opened.1 w.opened.0 w.copied
