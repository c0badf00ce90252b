pub mod Trios
pub mod States
pub mod Ways
pub mod Bits
