use Rattle.calls.proofs.Cited.{rules, ◌≡◌, ◌<◌, ℕ, List, length, subst, err_from_is_err_and, Writes, bad_within, some_read, call_at, CallText, call_reads, no_call}
use Rattle.calls.specs.Script.{StopsAt}
use Rattle.calls.proofs.Answering.{answering_none, answering_more, answering_written, half_written, lines_end, lines_stop}
use Rattle.calls.proofs.lines.answer_lines.Goals as goal

pub loop-rest-init : goal.loop-rest-init
loop-rest-init g c = (c.requires, rw c.new-out.ensures.items (answering_none c.args.text.now (g.W.Write.contents c.args.writer.now)))

pub loop-rest-smaller : goal.loop-rest-smaller
loop-rest-smaller g c = some_read CallText call_at call_reads no_call c.loop-rest.rest.now c.in-Ok.call c.in-Ok.after.now c.in-Ok.ensures

pub loop-rest-preserved : goal.loop-rest-preserved
loop-rest-preserved g c =
    let text = c.args.text.now in
    let after = c.in-Ok.after.now in
    let line = c.saturating_add-line.result in
    let before = g.W.Write.contents c.args.writer.now in
    let now = g.W.Write.contents c.loop-rest.writer in
    let out = c.answer_one.new.out.items in
    let p = c.in_ok-answer_one-in-Ok.ensures.printed in
    let a = answering_more text c.loop-rest.rest.now after c.loop-rest.line line before now c.loop-rest.out.items out c.in-Ok.call p.0 c.loop-rest.invariant.1 c.in-Ok.ensures c.saturating_add-line.ensures p.1 in
    (c.in_ok-answer_one-in-Ok.ensures.stands, answering_written text after line before now (g.W.Write.contents c.write_piece.new.writer) out c.write_piece.new.out.items a c.in_ok-write_piece-in-Ok.ensures)

pub returns-in_err-write_piece-in-Ok : goal.returns-in_err-write_piece-in-Ok
returns-in_err-write_piece-in-Ok g c =
    let text = c.args.text.now in
    let after = c.in-Ok.after.now in
    let line = c.saturating_add-line.result in
    let before = g.W.Write.contents c.args.writer.now in
    let now = g.W.Write.contents c.loop-rest.writer in
    let out = c.answer_one.new.out.items in
    let p = c.in_ok-answer_one-in-Ok.ensures.printed in
    let a = answering_more text c.loop-rest.rest.now after c.loop-rest.line line before now c.loop-rest.out.items out c.in-Ok.call p.0 c.loop-rest.invariant.1 c.in-Ok.ensures c.saturating_add-line.ensures p.1 in
    let e = err_from_is_err_and c.from_residual-in_err-write_piece-in-Ok.result c.from_residual-in_err-write_piece-in-Ok.ensures.1 in
    rw (e.1, e.2) (half_written text after line before now (g.W.Write.contents c.write_piece.new.writer) out c.in_err-write_piece-in-Ok.field-0.0 a c.in_err-write_piece-in-Ok.ensures)

pub column_of-requires : goal.column_of-requires
column_of-requires g c = bad_within CallText call_at call_reads c.loop-rest.rest.now c.in-Err.bad.now c.in-Err.ensures

pub returns-in-Err : goal.returns-in-Err
returns-in-Err g c =
    let before = g.W.Write.contents c.args.writer.now in
    let now = g.W.Write.contents c.loop-rest.writer in
    let after = g.W.Write.contents c.stop_at.new.writer in
    let some : 0 < length c.loop-rest.rest.now = search rules in
    let stops = subst (λ (b : List ℕ). StopsAt now after b c.loop-rest.line c.column_of.result c.stop_at.result) c.deref.ensures.value c.stop_at.ensures in
    lines_stop c.args.text.now c.loop-rest.rest.now c.in-Err.bad.now c.loop-rest.line c.column_of.result before now after c.loop-rest.out.items c.stop_at.result c.loop-rest.invariant.1 some c.in-Err.ensures c.column_of.ensures stops

pub returns : goal.returns
returns g c =
    let before = g.W.Write.contents c.args.writer.now in
    let now = g.W.Write.contents c.loop-rest.writer in
    let after = g.W.Write.contents c.write_whole.new.writer in
    let none : length c.loop-rest.rest.now ≡ 0 = search rules in
    let written = subst (λ (b : List ℕ). Writes now after b c.write_whole.result) c.deref-2.ensures.value c.write_whole.ensures.written in
    lines_end c.args.text.now c.loop-rest.rest.now c.loop-rest.line before now after c.loop-rest.out.items c.write_whole.result c.loop-rest.invariant.1 none written
