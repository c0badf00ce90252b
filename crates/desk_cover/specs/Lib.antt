pub mod Records
pub mod Watching
pub mod Sections
pub mod Counting
pub mod Plays
pub mod Looking
pub mod Known
pub mod Tracing
