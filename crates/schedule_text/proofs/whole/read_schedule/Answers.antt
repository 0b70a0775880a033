use Rattle.schedule_text.proofs.Cited.{inl, sym, err_from_is_err_and}
use Rattle.schedule_text.specs.Header.{HeaderText}
use Rattle.schedule_text.specs.Grammar.{header_at}
use Rattle.schedule_text.proofs.Columns.{bad_within}
use Rattle.schedule_text.proofs.Headers.{header_reads}
use Rattle.schedule_text.proofs.Wholes.{has_header, is_whole, out_of_limits, no_header, no_lines}
use Rattle.schedule_text.proofs.whole.read_schedule.Goals as goal

pub returns-then-not-is_within_limits-clause-fault : goal.returns-then-not-is_within_limits-clause-fault
returns-then-not-is_within_limits-clause-fault c = out_of_limits c.args.text.now c.in-Ok.rest.now c.in-Ok.config c.in-Ok.ensures (sym c.if-not-is_within_limits.ensures)

pub returns-in_err-lines-in-Ok-clause-fault : goal.returns-in_err-lines-in-Ok-clause-fault
returns-in_err-lines-in-Ok-clause-fault c =
    let p = err_from_is_err_and c.from_residual.result c.from_residual.ensures.1 in
    rw (p.1, p.2) (no_lines c.args.text.now c.in-Ok.rest.now c.in-Ok.config c.in_err-lines-in-Ok.field-0.0 (has_header c.args.text.now c.in-Ok.rest.now c.in-Ok.config c.in-Ok.ensures (sym c.if-not-is_within_limits.ensures)) c.in_err-lines-in-Ok.ensures.fault)

pub column_of-requires : goal.column_of-requires
column_of-requires c = bad_within HeaderText header_at header_reads c.args.text.now c.in-Err.bad.now c.in-Err.ensures

pub returns-in_ok-lines-in-Ok-clause-found : goal.returns-in_ok-lines-in-Ok-clause-found
returns-in_ok-lines-in-Ok-clause-found c =
    is_whole c.args.text.now c.in-Ok.rest.now c.in-Ok.config _ (has_header c.args.text.now c.in-Ok.rest.now c.in-Ok.config c.in-Ok.ensures (sym c.if-not-is_within_limits.ensures)) c.in_ok-lines-in-Ok.ensures.found

pub returns-in-Err-clause-fault : goal.returns-in-Err-clause-fault
returns-in-Err-clause-fault c = inl (no_header c.args.text.now c.in-Err.bad.now c.column_of.result c.in-Err.ensures c.column_of.ensures)
