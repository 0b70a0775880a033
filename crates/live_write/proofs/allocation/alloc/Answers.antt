use Rattle.live_write.proofs.Cited.{◌++◌, ◌∙◌, List, sym, ap, subst, append-nil, err_from_is_err_and, Me, Look, Sizes, CallbackId, View}
use Rattle.live_write.specs.Searching.{GetsNoRecord, TakesFor, TakesRecord}
use Rattle.live_write.proofs.allocation.alloc.Goals as goal

pub returns-in_err-cell-clause-looks : goal.returns-in_err-cell-clause-looks
returns-in_err-cell-clause-looks g c = let p = err_from_is_err_and c.from_residual.result c.from_residual.ensures.1 in
    let l = c.learn.ensures.loads.1 in let r = c.in_err-cell.ensures.refused in let tell = c.tell-seat.ensures in
    let own = ap (λ (m : Me CallbackId View). m.0.looks) c.cut_object-own.ensures.2 ∙ (ap (λ (v : View). v.looks) r.2.1 ∙ (ap (λ (xs : List Look). r.1 ++ xs) (ap (λ (m : Me CallbackId View). m.0.looks) tell.seat.1) ∙ append-nil r.1)) in
    (r.1, l ∙ (λ i. own i ++ (tell.same.3 ∙ c.search_from-from.ensures.same.3) i), rw p.1 (p.2 ∙ r.0, subst (λ (k : Sizes). GetsNoRecord k r.1) c.requires.site.1 r.3))

pub returns-clause-took : goal.returns-clause-took
returns-clause-took g c =
    let a = c.in_ok-cell.ensures.taken.2 in let l = c.search_behind.ensures.same.3 ∙ c.learn.ensures.loads.1 in let tell = c.tell-seat.ensures in let cut = c.cut_object-own.ensures in
    let own = ap (λ (m : Me CallbackId View). m.0.looks) cut.2 ∙ (ap (λ (v : View). v.looks) a.1.1 ∙ (ap (λ (xs : List Look). a.0 ++ xs) (ap (λ (m : Me CallbackId View). m.0.looks) tell.seat.1) ∙ append-nil a.0)) in
    let object = ap (λ (m : Me CallbackId View). m.0.object) cut.4 ∙ ap (λ (v : View). v.object) a.1.1 in
    subst (TakesFor g.W.Caller g.B.Site.sizes c.args.caller.now c.search_behind.new.self) (sym object)
    (a.0, l ∙ (λ i. own i ++ (tell.same.3 ∙ c.search_from-from.ensures.same.3) i), subst (λ (k : Sizes). TakesRecord k c.in_ok-cell.cell c.in_ok-cell.number a.0) c.requires.site.1 a.2)
