pub mod Acting
pub mod Table
