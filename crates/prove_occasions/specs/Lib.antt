pub mod Amounts
pub mod Picks
pub mod Turns
