-- The lemmas of this crate that crates above it cite.
pub use Rattle.reader_word.proofs.WordLemmas.{NestsDeeper, entered_of-nests, entered_of-opens, left_of-nests}
