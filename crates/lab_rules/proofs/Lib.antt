pub mod FieldLemmas
mod MoveLemmas
mod OnLemmas
mod PartLemmas
pub mod ReadLemmas
pub mod CountLemmas
mod AmountLemmas
pub mod SpendLemmas
