pub mod Powers
pub mod Laws
pub mod Computed
