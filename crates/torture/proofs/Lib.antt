mod Cited
pub mod Options
pub mod Readings
