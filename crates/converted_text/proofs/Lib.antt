pub mod Printing
pub mod Texts
