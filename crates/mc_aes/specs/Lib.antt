pub mod State
pub mod Vectors
