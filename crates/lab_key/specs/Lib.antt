pub mod Sessions
pub mod Shown
pub mod Keys
pub mod KeyOf
pub mod Laws
pub mod Kept
pub mod KeptStates
