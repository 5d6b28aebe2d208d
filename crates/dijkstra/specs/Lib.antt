pub mod Code
pub mod Labelable
