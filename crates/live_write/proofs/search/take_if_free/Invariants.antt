use Rattle.live_write.proofs.Cited.{List, In, Look, Loaded, cell_at, Keeps}
use Rattle.live_write.specs.Searching.{Searched, StoresNothing}
use Rattle.live_write.proofs.search.take_if_free.Given as goal

abbrev pub invariant-loop : goal.invariant-loop
invariant-loop g l = Keeps l.fn.seat l.seat × ((found : List Look) × Searched g.P.GracePlan.QSBR g.K.ChainRule.allows found l.fn.seat.me.0.object l.fn.seat.me l.seat.me × In found (Loaded (cell_at l.table.words.shared.key l.cell 0) l.header) × StoresNothing found)
