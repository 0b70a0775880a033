mod Cited
mod Entering
mod Finding
mod Leaving
pub mod Lemmas
mod Making
mod Naming
mod Onward
mod Seeking
mod Staying
