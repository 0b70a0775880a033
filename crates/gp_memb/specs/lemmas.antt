-- Proofs that the laws of plans rest on: ghost members of traits can cite no others.
pub mod PlanLemmas
pub mod History
pub mod ScanLemmas
pub mod MembWaits
pub mod MembOrder
pub mod MembTurns
