mod Cited
pub mod Hearing
pub mod Moving
pub mod Once
pub mod Putting
pub mod Refused
pub mod Standing
pub mod Stopping
pub mod Walking
