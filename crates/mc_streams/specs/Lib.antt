pub mod Streams
pub mod MemoryStreams
