pub mod Fields
pub mod Meanings
pub mod Moves
pub mod Occasions
pub mod Parts

-- the libraries below that those above cite through this one
