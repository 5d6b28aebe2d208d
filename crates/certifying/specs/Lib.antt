pub mod Code
pub mod TablesCheck
