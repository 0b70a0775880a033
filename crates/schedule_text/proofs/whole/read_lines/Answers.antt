use Rattle.std.proofs.Common.{◌<◌, length, rules}
use Rattle.schedule_text.specs.Spelling.{LineText}
use Rattle.schedule_text.specs.Grammar.{line_at}
use Rattle.schedule_text.proofs.Bytes.{some_read}
use Rattle.schedule_text.proofs.Columns.{bad_within}
use Rattle.schedule_text.proofs.Lines.{line_reads, no_line}
use Rattle.schedule_text.proofs.Wholes.{each_more, parts_more, breaks_off}
use Rattle.schedule_text.proofs.whole.read_lines.Goals as goal

pub loop-rest-smaller : goal.loop-rest-smaller
loop-rest-smaller c = some_read LineText line_at line_reads no_line c.loop-rest.rest.now c.in-Ok.line c.in-Ok.after.now c.in-Ok.ensures

pub loop-rest-preserved : goal.loop-rest-preserved
loop-rest-preserved c = rw c.in_ok-push-in-Ok.ensures.items record {
  each = each_more c.loop-rest.lines.items c.in-Ok.line c.loop-rest.rest.now c.in-Ok.after.now c.in-Ok.ensures c.loop-rest.invariant.each;
  parts = parts_more c.args.text.now c.loop-rest.lines.items c.in-Ok.line c.loop-rest.rest.now c.in-Ok.after.now c.in-Ok.ensures c.loop-rest.invariant.parts;
}

pub column_of-requires : goal.column_of-requires
column_of-requires c = bad_within LineText line_at line_reads c.loop-rest.rest.now c.in-Err.bad.now c.in-Err.ensures

pub returns-in-Err-clause-fault : goal.returns-in-Err-clause-fault
returns-in-Err-clause-fault c =
    let i = c.loop-rest.invariant in
    let some : 0 < length c.loop-rest.rest.now = search rules in
    breaks_off c.args.text.now c.loop-rest.lines.items c.loop-rest.rest.now c.in-Err.bad.now c.saturating_add.result c.column_of.result i.each i.parts some c.in-Err.ensures c.column_of.ensures (search rules)
