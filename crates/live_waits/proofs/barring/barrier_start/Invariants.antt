use Rattle.live_waits.proofs.Cited.{◌≡◌, ◌<◌, ◌≤◌, length, ℕ, List, get_or, Begins, line_of, Look, Precedes, Keeps}
use Rattle.live_waits.specs.Barrier.{AreNoted, Found}
use Rattle.live_waits.proofs.barring.barrier_start.Given as goal

-- the counts of the queues so far were loaded between the first load and now
abbrev pub invariant-loop-queue : goal.invariant-loop-queue
invariant-loop-queue g l =
    Keeps l.fn.seat l.seat
    × ((since : List Look) × Found g.P.GracePlan.QSBR g.K.ChainRule.allows since l.fn.seat.me l.seat.me × AreNoted l.fn.table.words.shared.key l.counts l.queue since)
    × (Precedes l.fn.seat.me.0 l.asked.value.me.0.seen × Begins l.asked.value.me.0.seen l.seat.me.0.seen × (l.asked.value.me.0.sizes ≡ l.fn.seat.me.0.sizes))
    × (length l.counts ≡ 8)
    × ((q : ℕ) → q < l.queue → length (line_of l.asked.value.me.0.seen q) ≤ get_or l.counts q 0)
    × ((q : ℕ) → q < l.queue → get_or l.counts q 0 ≤ length (line_of l.seat.me.0.seen q))
