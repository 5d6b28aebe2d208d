pub mod Isolation
pub mod Overlong
