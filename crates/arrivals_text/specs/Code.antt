pub mod Found
pub mod Tables
