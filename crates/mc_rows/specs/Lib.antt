pub mod Rows
pub mod FrameRows
pub mod Families
