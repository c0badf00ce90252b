pub mod AllowedLemmas
pub mod IncludedLemmas
pub mod LandingLemmas
pub mod OutcomeLemmas
