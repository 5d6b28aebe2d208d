pub mod Demand3
pub mod Front
pub mod LabelRules
