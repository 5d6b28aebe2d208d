pub mod Networks
pub mod Towns
