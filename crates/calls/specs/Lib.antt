pub mod Standing
pub mod Script
