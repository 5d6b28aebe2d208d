pub mod Conversion
pub mod Digits
pub mod HoldEnds
pub mod Lengths
pub mod LineSteps
pub mod Peeled
pub mod Texts
pub mod ThreeRules
