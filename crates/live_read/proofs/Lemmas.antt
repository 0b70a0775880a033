-- The lemmas of this crate that crates above it cite.
pub use Rattle.live_read.proofs.Staying.{stays_in, held_stays, held_later, held_in, held_across}
pub use Rattle.live_read.proofs.Finding.{looks_twice}
pub use Rattle.live_read.proofs.Making.{hears_makes, makes_hears, makes_stays, more_made, more_only, none_made, none_only, one_made, one_only, stays_makes}
