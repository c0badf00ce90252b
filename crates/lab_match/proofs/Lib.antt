pub mod MatchingLemmas
pub mod FieldLemmas
