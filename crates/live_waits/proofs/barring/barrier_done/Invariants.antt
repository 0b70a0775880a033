use Rattle.live_waits.proofs.Cited.{◌≡◌, ◌<◌, ℕ, List, get_or, Begins, Look, IsKnown, Keeps, HasNoOther}
use Rattle.live_waits.specs.Barrier.{AreReached, Found, HasRunTo}
use Rattle.live_waits.proofs.Barriers.{IsPassed}
use Rattle.live_waits.proofs.barring.barrier_done.Given as goal

-- the queues so far have each been looked at once, and are passed, and have run to their counts
abbrev pub invariant-loop-queue : goal.invariant-loop-queue
invariant-loop-queue g l = let key = l.table.words.shared.key in
    Keeps l.fn.seat l.seat
    × (l.queue ≡ 0 → l.seat.me ≡ l.fn.seat.me)
    × (0 < l.queue → (since : List Look) × Found g.P.GracePlan.QSBR g.K.ChainRule.allows since l.fn.seat.me l.seat.me × AreReached key l.mark.counts l.queue since)
    × (0 < l.queue → HasNoOther key l.seat.me.0.seen)
    × (l.mark.asked.value.me.0.sizes ≡ key → IsKnown (Begins l.mark.asked.value.me.0.seen) l.fn.seat.me.0 → (q : ℕ) → q < l.queue → IsPassed l.mark.asked.value.me.0.seen l.seat.me.0.seen q)
    × (l.seat.me.0.sizes ≡ key)
    × ((q : ℕ) → q < l.queue → HasRunTo l.seat.me.0.seen q (get_or l.mark.counts q 0))
