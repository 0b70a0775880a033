mod Cited
pub mod Counting
pub mod Orders
pub mod Retirings
pub mod Runnings
pub mod Looking
pub mod Ripening
pub mod Batches
pub mod Lemmas
