mod Cited
pub mod Lines
pub mod Queueing
pub mod Working
