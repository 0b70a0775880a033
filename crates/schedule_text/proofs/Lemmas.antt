-- The lemmas of this crate that crates above it cite.
pub use Rattle.schedule_text.proofs.Exact.{Reads, Done, Then, done_reads, then_reads, reads_as, ok_is, not_both, result_cases, seam}
pub use Rattle.schedule_text.proofs.Tables.{InTable}
pub use Rattle.schedule_text.proofs.Numbers.{EndedText, NumberText, NoDigit, ended_reads, is_that}
pub use Rattle.schedule_text.proofs.Langs.{Lang, then_lang, done_lang, number_lang, table_lang, as_lang}
pub use Rattle.schedule_text.proofs.Columns.{bad_within, rest_within, bad_column, long_column, found_whole, only_whole, no_whole}
pub use Rattle.schedule_text.proofs.Lines.{line_reads, no_line}
pub use Rattle.schedule_text.proofs.Headers.{header_reads, no_header}
pub use Rattle.schedule_text.proofs.More.{ok_more, err_more, last_byte, bad_byte, bad_end, column_once, whole, partial_reads, reads_partial}
pub use Rattle.schedule_text.proofs.Bytes.{some_read}
pub use Rattle.schedule_text.proofs.AnswerLogs.{tells_once}
pub use Rattle.schedule_text.proofs.AnswerPieces.{more_text}
pub use Rattle.schedule_text.proofs.Spelled.{answer_spelled}
