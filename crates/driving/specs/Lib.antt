pub mod ArcKept
pub mod Code
pub mod InPlan
pub mod Tries
