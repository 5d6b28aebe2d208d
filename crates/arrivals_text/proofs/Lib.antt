pub mod Answers
pub mod Lines
pub mod Meaning
pub mod Networks
pub mod Questions
pub mod ReadBack
