use Rattle.live_waits.proofs.Cited.{◌≡◌, true, Wide}
use Rattle.live_waits.specs.Going.{InLoop, WorksAt}
use Rattle.live_waits.proofs.period.grace_period.Given as goal

abbrev pub invariant-loop : goal.invariant-loop
invariant-loop g l = let p = g.P.GracePlan in (l.seat.table_id ≡ l.table.words.shared.table_id) × (l.seat.id ≡ l.fn.seat.id) × (l.present ≡ p.present l.plan) × WorksAt l.fn.seq l.present l.seat.me.0
    × InLoop (p.is_begun Wide true l.table.slots l.fn.seq l.fn.first) p.action p.taken p.present l.fn.seq p.QSBR g.K.ChainRule.allows l.fn.seat.me l.fn.first l.plan l.seat.me
