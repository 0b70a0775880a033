use Rattle.std.proofs.Common.{rules, refl}
use Rattle.live_read.proofs.Entering.{announces_now}
use Rattle.live_read.proofs.reader_core.ReaderCore.quiescent.Goals as goal

pub returns-clause-ok : goal.returns-clause-ok
returns-clause-ok g c = let w = c.quiescent-word.ensures in announces_now g.P.GracePlan.QSBR g.K.ChainRule.allows c.args.self.now _ (search rules) (search rules) (search rules) refl refl refl w.announced.1 w.announced.0 w.copied
