pub mod Lemmas
pub mod Registering
