pub mod Words
pub mod Vectors
