-- The lemmas of this crate that crates above it cite.
pub use Rattle.live_write.proofs.Keyed.{may_publish, keyed_push, keyed_replace, keyed_cut}
pub use Rattle.live_write.proofs.Walking.{index_has, went_both}
