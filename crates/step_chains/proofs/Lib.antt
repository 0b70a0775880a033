mod Cited
pub mod Counting
pub mod Writers
pub mod Holding
pub mod Reading
pub mod Splices
pub mod After
pub mod Keyed
pub mod Lemmas
