use Rattle.rcu.proofs.Cited.{List}
use Rattle.rcu.specs.Serving.{WorkOn}
use Rattle.rcu.specs.Trying.{StaysOn}
use Rattle.rcu.proofs.working.work.Given as goal

abbrev pub invariant-loop : goal.invariant-loop
invariant-loop g l = StaysOn g.W.Caller l.fn.caller l.caller × ((mids : List _) × WorkOn g.W.Caller g.row.D.coded.code g.D.Deleter.answers g.P.GracePlan.QSBR g.K.ChainRule.allows g.B.Site.sizes l.queue mids l.fn.caller l.caller)
