-- Proofs that the laws of the plan rest on: ghost members of traits can cite no others.
pub mod QsbrWaits
pub mod QsbrOrder
pub mod QsbrTurns
