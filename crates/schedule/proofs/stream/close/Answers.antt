use Rattle.schedule.proofs.Cited.{List, ℕ, subst, Err, Appends, err_from_is_err_and}
use Rattle.schedule.specs.Stream.{LeadsToEnd}
use Rattle.schedule.specs.Ports.{Writes}
use Rattle.schedule.proofs.Passing.{close_cut, close_whole}
use Rattle.schedule.proofs.stream.close.Goals as goal

pub returns-in_err-write_whole : goal.returns-in_err-write_whole
returns-in_err-write_whole g c = λ fed earlier s.
    let p = err_from_is_err_and c.from_residual.result c.from_residual.ensures.1 in
    let before = g.W.Write.contents c.args.writer.now in
    let after = g.W.Write.contents c.write_whole.new.writer in
    let out = c.finish-counts.new.out.items in
    let ends = subst (λ (b : List ℕ). LeadsToEnd fed earlier b out c.finish-counts.result) c.clear.ensures.items (c.finish-counts.ensures.finishes fed earlier s) in
    rw (p.1, p.2) (close_cut fed earlier out before after c.finish-counts.result c.in_err-write_whole.field-0.0 ends (subst (λ (b : List ℕ). Writes before after b (Err c.in_err-write_whole.field-0.0)) c.deref.ensures.value c.in_err-write_whole.ensures.written))

pub returns : goal.returns
returns g c = λ fed earlier s.
    let before = g.W.Write.contents c.args.writer.now in
    let after = g.W.Write.contents c.write_whole.new.writer in
    let out = c.finish-counts.new.out.items in
    let ends = subst (λ (b : List ℕ). LeadsToEnd fed earlier b out c.finish-counts.result) c.clear.ensures.items (c.finish-counts.ensures.finishes fed earlier s) in
    close_whole fed earlier out before after c.finish-counts.result ends (subst (λ (b : List ℕ). Appends before after b) c.deref.ensures.value c.in_ok-write_whole.ensures.written)
