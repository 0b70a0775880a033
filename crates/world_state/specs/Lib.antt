pub mod Limits
pub mod Readers
pub mod Objects
pub mod Queues
pub mod View
