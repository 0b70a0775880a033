mod Cited
pub mod Lemmas
pub mod Sent
pub mod Values
