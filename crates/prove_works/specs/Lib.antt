pub mod Reaches
pub mod Numbers
pub mod Searches
pub mod Narrowing
pub mod Rows
