use Rattle.live_write.proofs.Cited.{ℕ, ap, arith, List, [], ◌∷◌, ◌++◌, ◌∙◌, refl, inl, Look, Loaded, Stored, Fresh, cell_at, fresh_word, link_in, payload_in}
use Rattle.live_write.proofs.Searching.{searched_then}
use Rattle.live_write.proofs.search.take_if_free.Goals as goal

pub loop-init : goal.loop-init
loop-init g c = let e = c.load_header-header.ensures in
    (e.seat, (Loaded (cell_at c.args.table.now.words.shared.key c.args.cell 0) c.load_header-header.result ∷ [], e.looked, inl refl, refl))

pub loop-preserved : goal.loop-preserved
loop-preserved g c = let i = c.loop.invariant in let e = c.take_cell-found.ensures in
    let now : Look = Loaded (cell_at c.args.table.now.words.shared.key c.args.cell 0) c.take_cell-found.result in
    ((e.seat.0 ∙ i.0.0, e.seat.1 ∙ i.0.1), (now ∷ i.1.0, searched_then g.P.GracePlan.QSBR g.K.ChainRule.allows i.1.0 (now ∷ []) c.args.seat.now.me.0.object (λ y. y) c.args.seat.now.me c.loop.seat.me c.take_cell-found.new.seat.me i.1.1 (e.missed c.if-found-header.false), inl refl, i.1.3))

pub returns-then-found-header-clause-taken : goal.returns-then-found-header-clause-taken
returns-then-found-header-clause-taken g c = let i = c.loop.invariant.1 in let t = c.take_cell-found.ensures.taken c.if-found-header.true in
    let w = c.take_cell-found.new.seat.me in let number = c.in-Some-next_in.number in let next = c.in-Some-next_in.ensures.next in
    let place = cell_at c.args.table.now.words.shared.key c.args.cell 0 in
    let now : List Look = Stored place (fresh_word number) ∷ Loaded place c.take_cell-found.result ∷ [] in (
      (let is = next.0 in let below = next.1.1 in omega arith),
      (
        now ++ i.0,
        searched_then g.P.GracePlan.QSBR g.K.ChainRule.allows i.0 now c.args.seat.now.me.0.object (λ _. Fresh c.args.cell (record { 0 = number }) (link_in w.0.object) (payload_in w.0.object)) c.args.seat.now.me c.loop.seat.me w i.1 t.0,
        t.1,
        record { word = c.loop.header; before = i.0; taken = ap (λ (w : ℕ). Stored place (fresh_word number) ∷ Loaded place w ∷ i.0) c.if-found-header.true; free = (next.1, next.0); only = i.3 },
      ),
    )
