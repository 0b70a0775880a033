pub mod Numbers
pub mod Keeping
pub mod Histories
