mod Cited
pub mod Arguments
pub mod Actors
pub mod Verbs
pub mod Calls
pub mod Headers
pub mod OneLine
pub mod Lemmas
