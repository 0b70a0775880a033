mod Cited
pub mod Allowing
pub mod Changing
pub mod GivingBack
pub mod Going
pub mod Lemmas
pub mod Looking
pub mod Refused
pub mod Values
pub mod Walking
pub mod Windows
pub mod Writing
pub use Rattle.domain.proofs.live_read as live_read
pub use Rattle.domain.proofs.live_write as live_write
