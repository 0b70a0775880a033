mod Cited
pub mod Reserving
