use Rattle.live_read.proofs.Cited.{[], First, Next, Touch}
use Rattle.live_read.specs.Holding.{log_of}
use Rattle.live_read.proofs.Onward.{reads_nothing, reads_more, waits}
use Rattle.live_read.proofs.laws.readings_fit.Goals as goal

pub returns-clause-nothing : goal.returns-clause-nothing
returns-clause-nothing g c r = let q = g.P.GracePlan.QSBR in reads_nothing q g.K.ChainRule.allows r (c.fitted_goes_on.ensures.fitted q (log_of r) [])

pub returns-clause-waits : goal.returns-clause-waits
returns-clause-waits g c = let q = g.P.GracePlan.QSBR in waits q g.K.ChainRule.allows (c.fitted_goes_on.ensures.fitted q) (c.fitted_goes_on.ensures.held q)

pub returns-clause-first : goal.returns-clause-first
returns-clause-first g c r t s m d found has l e = let q = g.P.GracePlan.QSBR in reads_more q g.K.ChainRule.allows (c.section_reads_on.ensures q) r t s m (First d found) has l tt e

pub returns-clause-next : goal.returns-clause-next
returns-clause-next g c r t s m o found has l held e = let q = g.P.GracePlan.QSBR in reads_more q g.K.ChainRule.allows (c.section_reads_on.ensures q) r t s m (Next o found) has l held e

pub returns-clause-touch : goal.returns-clause-touch
returns-clause-touch g c r t s m o has l held = let q = g.P.GracePlan.QSBR in reads_more q g.K.ChainRule.allows (c.section_reads_on.ensures q) r t s m (Touch o) has l held tt
