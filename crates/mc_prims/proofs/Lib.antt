pub mod BlocksLemmas
pub mod FrameLemmas
pub mod PlacesLemmas
