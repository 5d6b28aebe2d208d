pub mod Faulty
pub mod LineRules
pub mod OneMore
pub mod Order
