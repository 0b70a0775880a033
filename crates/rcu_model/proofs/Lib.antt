pub mod Members
pub mod SetLemmas
pub mod Safety
pub mod Follows
pub mod Runs
pub mod Headline
pub mod Opening
pub mod Lifetimes
pub mod Protection
pub mod Backwards
pub mod Growing
pub mod Fitting
pub mod Awaiting
pub mod Endings
pub mod RunOrder
mod Sizes
pub mod Lemmas
