pub mod Code
pub mod Fields
