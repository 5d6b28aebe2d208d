pub mod Arcs
pub mod FromLabels
pub mod Marks
pub mod Roads
