-- The lemmas of this crate that crates above it cite.
pub use Rattle.step_readers.proofs.Words.{opened_after, copied_before, phase_copied}
