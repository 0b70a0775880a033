mod Cited
pub mod Short
pub mod Bytes
pub mod Playing
pub mod Standing
pub mod Once
pub mod KnownBytes
pub mod Passing
pub mod RoundTrip
pub mod Starting
mod Safety
mod SafelyFed
pub mod Lemmas
