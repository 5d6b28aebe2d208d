pub mod Code
pub mod Towns
