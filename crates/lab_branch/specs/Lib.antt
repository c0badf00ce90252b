pub mod Branches
pub mod Applications
pub mod Rosters
