pub mod Exit
pub mod Transfer
