mod Cited
pub mod Values
pub mod Lemmas
