pub mod Written
pub mod Played
pub mod Checked
pub mod Verdicts
pub mod Summed
