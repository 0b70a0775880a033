-- The lemmas of this crate that crates above it cite.
pub use Rattle.call_text.proofs.Calls.{call_reads, no_call}
pub use Rattle.call_text.proofs.Headers.{header_reads, no_header}
