pub mod Said
pub mod Words
pub mod Status
