use Rattle.domain.proofs.Cited.{◌≡◌, ◌+◌, ◌-◌, ◌≤◌, reverse, vec_len, vec_capacity, InOrder, IsDue, Lists, WorksFor}
use Rattle.domain.specs.Working.{GoesOn}
use Rattle.domain.proofs.domain.Domain.run_all.Given as goal

abbrev pub invariant-loop-count : goal.invariant-loop-count
invariant-loop-count g l =
    GoesOn g.P.GracePlan.QSBR g.K.ChainRule.allows l.fn.seat l.seat
    × WorksFor l.queue l.count l.seat.me.0
    × IsDue l.queue l.given l.seat.me.0.seen
    × Lists g.row.D.coded.code g.D.Deleter.answers l.queue l.seat.me.0.seen l.first l.count l.list.items
    × (vec_len l.list + (l.given - l.count) ≤ vec_capacity l.list)
    × InOrder l.queue l.seat.me.0.seen l.count (reverse l.batch.items)
    × (l.count + vec_len l.batch ≡ l.given)
    × (l.seat.me.0.looks ≡ l.fn.seat.me.0.looks)
