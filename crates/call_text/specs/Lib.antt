pub mod Spelling
pub mod Header
pub mod Grammar
pub mod Answers
