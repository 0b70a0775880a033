pub mod Sections
pub mod Groups
