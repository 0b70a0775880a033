mod Cited
pub mod Verdicts
pub mod Courses
