pub mod Choices
pub mod Scenes
pub mod Steps
