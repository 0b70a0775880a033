mod Cited
pub mod Stores
pub mod Sections
pub mod Words
mod Slots
pub mod Bits
pub mod Lemmas
