use Rattle.live_waits.proofs.Cited.{◌≡◌, length, Keeps}
use Rattle.live_waits.specs.Status.{AreWaiting, HasFound, HasNone, Looks}
use Rattle.live_waits.proofs.counting.waiting.Given as goal

-- the counts of each queue so far were loaded once
abbrev pub invariant-loop-queue : goal.invariant-loop-queue
invariant-loop-queue g l =
    Keeps l.fn.seat l.seat
    × ((found : Looks) × HasFound found l.fn.seat.me l.seat.me × AreWaiting l.table.words.shared.key l.queue l.waiting found)
    × (length l.waiting ≡ 8)
    × HasNone l.queue l.waiting
    × (l.seat.me.0.sizes ≡ l.table.words.shared.key)
