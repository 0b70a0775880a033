mod Cited
pub mod KeptValues
pub mod Handles
