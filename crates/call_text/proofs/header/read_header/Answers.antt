use Rattle.call_text.proofs.Cited.{length, ap, sym, Ok, eqb-true, eqb-false, bad_within, rest_within, bad_column, long_column, found_whole, only_whole, no_whole}
use Rattle.call_text.specs.Grammar.{header_at}
use Rattle.call_text.specs.Header.{HeaderText}
use Rattle.call_text.proofs.Headers.{header_reads}
use Rattle.call_text.proofs.header.read_header.Goals as goal

pub column_of-column-requires : goal.column_of-column-requires
column_of-column-requires c = rest_within HeaderText header_at header_reads c.args.text.now c.in-Ok.header c.in-Ok.rest.now c.in-Ok.ensures

pub returns-then-is_empty-clause-found : goal.returns-then-is_empty-clause-found
returns-then-is_empty-clause-found c = found_whole HeaderText header_at header_reads c.args.text.now c.in-Ok.header c.in-Ok.rest.now c.in-Ok.ensures (eqb-true _ _ (sym c.if-is_empty.ensures))

pub returns-then-is_empty-clause-only : goal.returns-then-is_empty-clause-only
returns-then-is_empty-clause-only c = λ x is same. ap (λ l. Ok l) (only_whole HeaderText header_at header_reads c.args.text.now c.in-Ok.header x c.in-Ok.rest.now c.in-Ok.ensures (is, same)).0

pub returns-else-is_empty-clause-only : goal.returns-else-is_empty-clause-only
returns-else-is_empty-clause-only c = λ x is same.
    absurd (eqb-false _ _ (sym c.if-is_empty.ensures) (ap length (only_whole HeaderText header_at header_reads c.args.text.now c.in-Ok.header x c.in-Ok.rest.now c.in-Ok.ensures (is, same)).1))

pub returns-else-is_empty-clause-column : goal.returns-else-is_empty-clause-column
returns-else-is_empty-clause-column c =
    long_column HeaderText header_at header_reads c.args.text.now c.in-Ok.header c.in-Ok.rest.now c.column_of-column.result c.in-Ok.ensures (eqb-false _ _ (sym c.if-is_empty.ensures)) c.column_of-column.ensures

pub column_of-column-requires-in-Err : goal.column_of-column-requires-in-Err
column_of-column-requires-in-Err c = bad_within HeaderText header_at header_reads c.args.text.now c.in-Err.bad.now c.in-Err.ensures

pub returns-in-Err-clause-only : goal.returns-in-Err-clause-only
returns-in-Err-clause-only c = λ x is same. absurd (no_whole HeaderText header_at header_reads c.args.text.now c.in-Err.bad.now x c.in-Err.ensures (is, same))

pub returns-in-Err-clause-column : goal.returns-in-Err-clause-column
returns-in-Err-clause-column c = bad_column HeaderText header_at header_reads c.args.text.now c.in-Err.bad.now c.column_of-column-in-Err.result c.in-Err.ensures c.column_of-column-in-Err.ensures
