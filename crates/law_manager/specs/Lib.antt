pub mod Orders
pub mod Answers
pub mod OnCard
pub mod Laws
