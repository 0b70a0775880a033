-- The lemmas of this crate that crates above it cite.
pub use Rattle.loose_box.proofs.Values.{both, Loose, loose_good, loose_out, loose_in}
