pub mod Fences
pub mod ShortSpeeds
