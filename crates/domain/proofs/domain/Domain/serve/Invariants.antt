use Rattle.domain.proofs.Cited.{◌≡◌, ◌≤◌, [], length, line_of, Lists, WorksFor}
use Rattle.domain.specs.Working.{GoesOn, Rounds}
use Rattle.domain.proofs.domain.Domain.serve.Given as goal

abbrev pub invariant-loop : goal.invariant-loop
invariant-loop g l =
    GoesOn g.P.GracePlan.QSBR g.K.ChainRule.allows l.fn.seat l.seat
    × WorksFor l.queue l.count l.seat.me.0
    × Lists g.row.D.coded.code g.D.Deleter.answers l.queue l.seat.me.0.seen l.first l.count l.list.items
    × (l.left.items ≡ [])
    × Rounds g.B.Site.sizes l.queue l.first l.count l.count l.fn.seat.me.0.looks l.seat.me.0.looks
    × (length (line_of l.fn.seat.me.0.seen l.queue) ≤ l.queued)
