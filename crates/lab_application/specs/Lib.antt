pub mod Shadows
pub mod Finding
pub mod Names
pub mod Texts
pub mod Starts
