pub mod Inputs
pub mod Statuses
pub mod Outside
