-- The lemmas of this crate that crates above it cite.
pub use Rattle.boxed_handle.proofs.Sent.{owned_crosses}
