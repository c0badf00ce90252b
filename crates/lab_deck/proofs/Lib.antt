mod TogetherLemmas
pub mod ReadLemmas
pub mod MoveLemmas
pub mod NamedLemmas
