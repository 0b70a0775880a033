pub mod Answers
pub mod Asks
pub mod Going
pub mod Steps
pub mod Barrier
pub mod Status
