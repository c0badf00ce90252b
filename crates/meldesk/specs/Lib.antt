pub mod Jobs
pub mod Checks
pub mod Verdicts
pub mod Plays
pub mod Statuses
pub mod Running
pub mod Programs
