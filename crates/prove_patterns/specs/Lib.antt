pub mod Classes
pub mod Headers
pub mod Lengths
pub mod Lines
pub mod Opens
pub mod Replies
pub mod Ways
