pub mod Answers
pub mod HoldsLeft
pub mod LineFound
pub mod LineMark
pub mod LinesPut
