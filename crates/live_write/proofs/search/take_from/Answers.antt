use Rattle.live_write.proofs.Cited.{[], ◌++◌, ◌∙◌, stores_then}
use Rattle.live_write.proofs.Searching.{record_then, searched_then, taken_more, takes_then}
use Rattle.live_write.proofs.search.take_from.Goals as goal

pub returns-in-Some-clause-taken : goal.returns-in-Some-clause-taken
returns-in-Some-clause-taken g c = let i = c.loop-cell.invariant.1 in let t = c.in-Some.ensures.taken in
    let all = takes_then g.P.GracePlan.QSBR g.K.ChainRule.allows c.args.table.now.words.shared.key _ i.0 c.args.seat.now.me.0.object c.loop-cell.cell c.args.seat.now.me c.loop-cell.seat.me c.take_if_free.new.seat.me i.1 t.1 in
    (c.loop-cell-test.true, t.0, (t.1.0 ++ i.0, all, t.1.2, record_then c.args.table.now.words.shared.key c.loop-cell.cell _ i.0 t.1.0 i.3 t.1.3))

pub loop-cell-preserved : goal.loop-cell-preserved
loop-cell-preserved g c = let i = c.loop-cell.invariant in let e = c.in_default.ensures in let t = e.none in
    let all = searched_then g.P.GracePlan.QSBR g.K.ChainRule.allows i.1.0 t.0 c.args.seat.now.me.0.object (λ y. y) c.args.seat.now.me c.loop-cell.seat.me c.take_if_free.new.seat.me i.1.1 t.1 in
    ((e.seat.0 ∙ i.0.0, e.seat.1 ∙ i.0.1), (t.0 ++ i.1.0, all, taken_more c.args.table.now.words.shared.key i.1.0 t.0 c.args.from c.loop-cell.cell i.1.2 t.2, stores_then i.1.0 t.0 [] [] i.1.3 t.3))
