pub mod Purse
pub mod Laws
pub mod Worked
