pub mod Answers
pub mod Line
pub mod Question
pub mod Code
