pub mod Registry
pub mod Layout
pub mod History
