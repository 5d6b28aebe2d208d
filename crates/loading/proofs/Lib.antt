pub mod DigitsTaken
pub mod Fillable
pub mod Filling
pub mod Loaded
pub mod MarkedFrom
pub mod Taking
