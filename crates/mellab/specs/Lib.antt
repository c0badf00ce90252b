pub mod Jobs
pub mod Verdicts
pub mod Statuses
pub mod Running
pub mod Programs
