pub mod Grounds
pub mod Losses
