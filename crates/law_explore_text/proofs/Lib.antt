pub mod Texts
pub mod Depths
