pub mod Answers
pub mod Asked
pub mod Copying
pub mod Counting
pub mod Forms
pub mod Marked
pub mod Towns
