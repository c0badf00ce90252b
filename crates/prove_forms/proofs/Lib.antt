pub mod NumberLemmas
pub mod TermLemmas
pub mod FormLemmas
pub mod OriginLemmas
pub mod SpelledLemmas
