pub mod Limits
pub mod Drawing
pub mod Checking
pub mod Walking
pub mod Ending
