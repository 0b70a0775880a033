pub mod Calls
pub mod HandleForms
pub mod Verdicts
