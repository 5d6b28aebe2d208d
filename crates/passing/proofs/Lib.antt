pub mod Attaining
pub mod Current
pub mod Lowering
pub mod PassesRules
pub mod Repeating
pub mod Taken
