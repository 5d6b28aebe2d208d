pub mod Linked
pub mod Offering
pub mod Rounds
