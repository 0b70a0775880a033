use denote.Param.{copied}
use Rattle.rcu.specs.Resizing.{OnlyMoves}
use Rattle.rcu.proofs.map.Map.tidy.Given as goal

abbrev pub invariant-loop : goal.invariant-loop
invariant-loop g l = OnlyMoves g.W.Caller g.P.GracePlan.QSBR g.B.Site.sizes l.self.table.directory (copied 2 g.row.F) l.fn.caller l.caller
