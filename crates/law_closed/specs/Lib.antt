pub mod Families
pub mod Delegations
pub mod Laws
pub mod Computed
pub mod Needed
pub mod ApartLaws
pub mod ApartComputed
