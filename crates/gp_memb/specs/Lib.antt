pub mod Plan
pub mod PlanLaws
pub mod Groups
pub mod Scan
pub mod Memb
pub mod Shorter
pub mod Early
pub mod lemmas
