pub mod StoppingRows
pub mod Writing
