-- The lemmas of this crate that crates above it cite.
pub use Rattle.schedule.proofs.KnownBytes.{appends_none, appends_more, consumes_more, consumes_kept, tells_more, tells_all}
pub use Rattle.schedule.proofs.Playing.{after_append}
