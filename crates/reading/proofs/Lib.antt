pub mod LineMarks
pub mod Steps
