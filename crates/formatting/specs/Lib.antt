pub mod Digits
pub mod Output
pub mod Printed
pub mod Putting
pub mod Texts
