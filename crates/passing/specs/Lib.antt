pub mod Code
pub mod Passes
