mod Cited
pub mod Fence
pub mod State
pub mod Callbacks
pub mod KeptReaders
pub mod KeptPublishing
pub mod Asking
pub mod Retirements
pub mod WorkerSteps
pub mod Logged
mod DrainSteps
pub mod Ranging
pub mod Counting
pub mod Rows
pub mod LockHolders
pub mod Standing
pub mod Moving
pub mod RunOrder
pub mod Notes
pub mod Promises
mod Loads
mod Checks
