pub mod Items
pub mod Retiring
pub mod Running
pub mod Batches
pub mod Refusing
pub mod Working
