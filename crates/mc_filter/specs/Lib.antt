pub mod Lines
pub mod Inputs
pub mod Statuses
pub mod Outside
pub mod Words
pub mod Programs
