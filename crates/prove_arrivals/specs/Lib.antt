pub mod Following
pub mod Replying
pub mod Subjects
