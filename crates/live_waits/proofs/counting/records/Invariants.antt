use Rattle.live_waits.proofs.Cited.{◌≤◌, Keeps}
use Rattle.live_waits.specs.Status.{AreInUse, HasFound, Looks}
use Rattle.live_waits.proofs.counting.records.Given as goal

-- each header so far was loaded once
abbrev pub invariant-loop-cell : goal.invariant-loop-cell
invariant-loop-cell g l = Keeps l.fn.seat l.seat × ((found : Looks) × HasFound found l.fn.seat.me l.seat.me × AreInUse l.table.words.shared.key l.cell l.records found) × (l.records ≤ l.cell)
