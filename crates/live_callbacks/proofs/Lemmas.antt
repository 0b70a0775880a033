-- The lemmas of this crate that crates above it cite.
pub use Rattle.live_callbacks.proofs.Batches.{all_and, all_later, due_later}
