pub mod Digits
pub mod Putting
pub mod Texts
