pub mod Limits
pub mod Running
pub mod Ending
