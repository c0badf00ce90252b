pub mod Words
pub mod Overlay
pub mod Touched
pub mod Holding
pub mod Putting
pub mod Counting
