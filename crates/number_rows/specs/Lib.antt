pub mod Code
pub mod NumbersRead
