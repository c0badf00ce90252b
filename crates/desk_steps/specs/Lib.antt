pub mod Shots
pub mod Guards
pub mod Counted
pub mod Statements
pub mod Lines
pub mod Moments
pub mod Turning
pub mod Recorded
pub mod Json
pub mod Runs
pub mod Sheets
-- the libraries below that those above cite through this one
pub use Rattle.law_steps as law_steps
