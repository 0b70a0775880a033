use Rattle.live_waits.proofs.Cited.{◌≡◌, ◌+◌, ◌-◌, ◌≤◌, vec_len, vec_capacity, Keeps}
use Rattle.live_waits.proofs.Scans.{Scanning}
use Rattle.live_waits.proofs.stalling.stalled.Given as goal

-- the words of the slots so far were loaded
abbrev pub invariant-loop-slot : goal.invariant-loop-slot
invariant-loop-slot g l =
    Keeps l.fn.seat l.seat
    × (l.seat.me.1 ≡ l.fn.seat.me.1)
    × (l.seat.me.0.sizes ≡ l.table.words.shared.key)
    × (vec_len l.slots + (l.table.slots - l.slot) ≤ vec_capacity l.slots)
    × Scanning g.P.GracePlan.QSBR g.K.ChainRule.allows l.fn.seat.me.0.seen l.fn.seat.me.0.heard l.fn.seat.me.0.loads l.seat.me.0.loads l.fn.seat.me.0.looks l.seat.me.0.looks l.present l.slot l.slots.items l.seat.me.0.seen
