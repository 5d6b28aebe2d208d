pub mod Answers
pub mod LineByLine
pub mod Listed
pub mod Meaning
pub mod Networks
pub mod Questions
pub mod ReadBack
