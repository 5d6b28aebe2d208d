pub mod Code
pub mod LineSteps
