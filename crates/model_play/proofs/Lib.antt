pub mod LineKinds
pub mod PlayLemmas
