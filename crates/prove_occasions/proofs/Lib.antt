pub mod AmountLemmas
pub mod LineLemmas
pub mod MarkLemmas
