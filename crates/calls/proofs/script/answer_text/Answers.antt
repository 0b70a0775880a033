use Rattle.calls.proofs.Cited.{bad_within, header_at, HeaderText, header_reads}
use Rattle.calls.proofs.Scripts.{has_header, has_none}
use Rattle.calls.proofs.script.answer_text.Goals as goal

pub column_of-column-requires : goal.column_of-column-requires
column_of-column-requires g c = bad_within HeaderText header_at header_reads c.args.text.now c.in-Err.bad.now c.in-Err.ensures

pub returns-then-header : goal.returns-then-header
returns-then-header g c = has_header c.args.text.now c.in-Ok.rest.now c.in-Ok.header (g.W.Write.contents c.args.writer.now) (g.W.Write.contents c.answer_in.new.writer) c.answer_in.result c.in-Ok.ensures c.answer_in.ensures

pub returns-else-header : goal.returns-else-header
returns-else-header g c = has_header c.args.text.now c.in-Ok.rest.now c.in-Ok.header (g.W.Write.contents c.args.writer.now) (g.W.Write.contents c.answer_in-else-header.new.writer) c.answer_in-else-header.result c.in-Ok.ensures c.answer_in-else-header.ensures

pub returns-in-Err : goal.returns-in-Err
returns-in-Err g c = has_none c.args.text.now c.in-Err.bad.now c.column_of-column.result (g.W.Write.contents c.args.writer.now) c.in-Err.ensures c.column_of-column.ensures
