pub mod Closures
pub mod Driving
pub mod DrivingClosed
pub mod FenceCount
pub mod Holds
pub mod Tries
