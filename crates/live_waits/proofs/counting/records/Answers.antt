use Rattle.live_waits.proofs.Cited.{◌%◌, ◌+◌, ◌∷◌, ◌∙◌, sym, ap, arith, eq-eqb, ne_eqb, cond, Loaded, Sizes, cell_at}
use Rattle.live_waits.proofs.Loads.{found_more, used_more}
use Rattle.live_waits.proofs.counting.records.Goals as goal
use Rattle.live_waits.proofs.counting.records.Goals.{then-header-ne0, else-header-ne0}

pub loop-cell-preserved : goal.loop-cell-preserved
loop-cell-preserved g c =
    let i = c.loop-cell.invariant in
    let key : Sizes = c.args.table.now.words.shared.key in
    let e = c.load_header-header.ensures in
    let found = found_more g.P.GracePlan.QSBR g.K.ChainRule.allows i.1.0 c.args.seat.now.me c.loop-cell.seat.me c.load_header-header.new.seat.me (cell_at key c.loop-cell.cell 0) c.load_header-header.result i.1.1 e.looked in
    let used = used_more key c.loop-cell.cell c.loop-cell.records c.load_header-header.result c.if-header-ne0.records i.1.0
    (elim c.if-header-ne0.branch [
      | then-header-ne0 w ↦ w.records-is ∙ sym (ap (λ b. cond b c.loop-cell.records (c.loop-cell.records + 1)) (ne_eqb (c.load_header-header.result % 4) 0 w.if-header-ne0.true))
      | else-header-ne0 w ↦ w.records-is ∙ sym (ap (λ b. cond b c.loop-cell.records (c.loop-cell.records + 1)) (eq-eqb (c.load_header-header.result % 4) 0 w.if-header-ne0.false))
    ])
    i.1.2 in
    ((e.seat.0 ∙ i.0.0, e.seat.1 ∙ i.0.1), (Loaded (cell_at key c.loop-cell.cell 0) c.load_header-header.result ∷ i.1.0, found, used), elim c.if-header-ne0.branch [ then-header-ne0 w ↦ (let e = w.records-is in let b = i.2 in omega arith) | else-header-ne0 w ↦ (let e = w.records-is in let b = i.2 in omega arith) ])
