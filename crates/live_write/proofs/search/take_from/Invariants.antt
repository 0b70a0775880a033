use Rattle.live_write.proofs.Cited.{ℕ, ◌<◌, ◌≤◌, List, Look, Keeps}
use Rattle.live_write.specs.Searching.{IsTaken, Searched, StoresNothing}
use Rattle.live_write.proofs.search.take_from.Given as goal

abbrev pub invariant-loop-cell : goal.invariant-loop-cell
invariant-loop-cell g l = Keeps l.fn.seat l.seat × ((found : List Look) × Searched g.P.GracePlan.QSBR g.K.ChainRule.allows found l.fn.seat.me.0.object l.fn.seat.me l.seat.me × ((i : ℕ) → l.fn.from ≤ i → i < l.cell → IsTaken l.table.words.shared.key found i) × StoresNothing found)
