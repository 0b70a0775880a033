mod Cited
pub mod Members
pub mod Parts
pub mod Rosters
pub mod Places
pub mod SectionLemmas
pub mod WaitLemmas
pub mod HoldingLemmas
pub mod Steps
pub mod Refusals
pub mod Judging
pub mod ObjectsTables
pub mod ObjectsLinking
pub mod ObjectsStores
pub mod ObjectsStages
pub mod ObjectsKept
