pub mod Code
pub mod Demand3
pub mod Figures
pub mod Rows
pub mod Sheet
