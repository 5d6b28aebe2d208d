pub mod ClosedNetwork
pub mod Highest
pub mod Question
pub mod Code
