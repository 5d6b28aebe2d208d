pub mod Answer
pub mod Meaning
pub mod Question
pub mod Code
