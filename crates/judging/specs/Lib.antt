pub mod Judging
pub mod Found
