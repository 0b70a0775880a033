-- The lemmas of this crate that crates above it cite.
pub use Rattle.step_chains.proofs.Keyed.{may_push, may_cut, may_replace}
pub use Rattle.step_chains.proofs.After.{may_still, did_after, note_same, next_same, there_after}
