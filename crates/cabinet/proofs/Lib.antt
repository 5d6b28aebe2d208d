pub mod HostAnswers
pub mod HostSteps
