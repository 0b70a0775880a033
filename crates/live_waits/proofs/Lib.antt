mod Cited
pub mod Answering
pub mod Cases
pub mod Cores
pub mod Goings
pub mod Tellings
pub mod Turnings
pub mod Barriers
pub mod Loads
pub mod Scans
