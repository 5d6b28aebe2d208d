pub mod Code
pub mod Route
