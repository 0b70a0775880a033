pub mod RunLemmas
mod Greatest
