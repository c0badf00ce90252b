pub mod Jobs
pub mod Verdicts
pub mod Judging
pub mod Rooms
pub mod Statuses
pub mod Programs
pub mod Running
pub mod Computed
