pub mod EndsScan
pub mod Flags
pub mod HighestScan
pub mod KeptSoFar
pub mod QuestionRules
pub mod Scan
