use Rattle.live_write.proofs.Cited.{[], ◌++◌, arith, IfSome_then, stores_then}
use Rattle.live_write.proofs.Searching.{if_none, record_then, searched_then, taken_all, takes_then}
use Rattle.live_write.proofs.search.take_any.Goals as goal

pub returns-in-None-clause-taken : goal.returns-in-None-clause-taken
returns-in-None-clause-taken g c = let n = c.in-None.ensures.none in let m = c.args.seat.now.me in
    IfSome_then c.take_from-in-None.result c.take_from-in-None.ensures.taken
    (λ i t. let all = takes_then g.P.GracePlan.QSBR g.K.ChainRule.allows c.args.table.now.words.shared.key i.1 n.0 m.0.object i.0 m c.take_from.new.seat.me c.take_from-in-None.new.seat.me n.1 t.2 in
    (omega arith, t.1, (t.2.0 ++ n.0, all, t.2.2, record_then c.args.table.now.words.shared.key i.0 i.1 n.0 t.2.0 n.3 t.2.3)))

pub returns-in-None-clause-none : goal.returns-in-None-clause-none
returns-in-None-clause-none g c = let n = c.in-None.ensures.none in let m = c.args.seat.now.me in
    if_none c.take_from-in-None.result c.take_from-in-None.ensures.none
    (λ t. let all = searched_then g.P.GracePlan.QSBR g.K.ChainRule.allows n.0 t.0 m.0.object (λ y. y) m c.take_from.new.seat.me c.take_from-in-None.new.seat.me n.1 t.1 in
    (t.0 ++ n.0, all, (taken_all c.args.table.now.words.shared.key n.0 t.0 _ (λ i up low. n.2 i up (omega arith)) t.2, stores_then n.0 t.0 [] [] n.3 t.3)))
