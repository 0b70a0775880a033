pub mod Lent
pub mod Owned
