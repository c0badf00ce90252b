pub mod TextLemmas
pub mod LogLemmas
pub mod ReadingLemmas
