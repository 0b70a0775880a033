use Rattle.live_write.proofs.Cited.{[], ◌++◌, refl, Fresh, HasNext, cell_at, link_in, object_in, payload_in, found_left, stores_then}
use Rattle.live_write.proofs.Searching.{record_then, searched_none, searched_then, takes_then}
use Rattle.live_write.proofs.allocation.take_filled.Goals as goal

pub returns-in_default-clause-refused : goal.returns-in_default-clause-refused
returns-in_default-clause-refused g c = let n = c.in_default.ensures.none in let m = c.args.seat.now.me in let key = c.args.table.now.words.shared.key in
    let all = searched_then g.P.GracePlan.QSBR g.K.ChainRule.allows [] n.0 m.0.object (λ y. y) m c.load_present.new.seat.me c.take_any.new.seat.me (searched_none g.P.GracePlan.QSBR g.K.ChainRule.allows m c.load_present.new.seat.me c.load_present.ensures.looked) n.1 in
    (refl, n.0 ++ [], all, ((λ i low. found_left n.0 [] (cell_at key i 0) (λ word. ¬ HasNext key i word) (n.2.0 i low)), stores_then [] n.0 [] [] refl n.2.1))

pub returns-clause-taken : goal.returns-clause-taken
returns-clause-taken g c = let t = c.in-Some.ensures.taken in let m = c.args.seat.now.me in let w = c.take_any.new.seat.me in let e = c.fill.new.seat.me in
    let q = g.P.GracePlan.QSBR in let k = g.K.ChainRule.allows in let i = c.in-Some.cell in let n = c.in-Some.number in
    let took = takes_then q k c.args.table.now.words.shared.key n [] m.0.object i m c.load_present.new.seat.me w (searched_none q k m c.load_present.new.seat.me c.load_present.ensures.looked) t.2 in (
      t.0,
      t.1,
      (
        t.2.0 ++ [],
        searched_then q k (t.2.0 ++ []) [] (Fresh i (record { 0 = n }) (link_in w.0.object) (payload_in w.0.object)) (λ y. Fresh i (object_in y) (link_in e.0.object) c.args.words) m w e took c.fill.ensures.words,
        record_then c.args.table.now.words.shared.key i n [] t.2.0 refl t.2.3,
      ),
    )
