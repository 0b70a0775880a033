mod Cited
pub mod Judgings
pub mod Findings
pub mod Lemmas
