pub mod SetLemmas
pub mod DigitLemmas
pub mod FactLemmas
pub mod CompareLemmas
pub mod ChangeLemmas
