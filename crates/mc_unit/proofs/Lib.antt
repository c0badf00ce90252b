pub mod Names
pub mod Grammar
pub mod Reading
pub mod Made
