mod Cited
pub mod Filling
pub mod Publishing
pub mod Searching
pub mod Walking
pub mod Keyed
pub mod Behind
pub mod Lemmas
