pub mod ByteLemmas
pub mod CountingLemmas
pub mod OutlineLemmas
pub mod PartLemmas
pub mod PlaceLemmas
pub mod SceneLemmas
pub mod SegmentLemmas
pub mod WordLemmas
