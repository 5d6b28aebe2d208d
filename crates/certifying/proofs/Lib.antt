pub mod Certificate
pub mod Deciding
pub mod Looking
pub mod TablesRules
