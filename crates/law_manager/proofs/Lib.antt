pub mod Orders
pub mod OnCard
pub mod Plains
