pub mod Code
pub mod Conversion
