pub mod Demand3
pub mod Labels
pub mod Within
