mod Cited
pub mod Writes
pub mod Queueing
pub mod Linking
pub mod Growing
pub mod Marking
pub mod Reading
pub mod Lemmas
