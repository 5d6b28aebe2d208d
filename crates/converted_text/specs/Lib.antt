pub mod Code
pub mod Printing
