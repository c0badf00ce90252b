pub mod StackRows
pub mod StackShape
