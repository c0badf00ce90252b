pub mod SetSteps
pub mod ReachLemmas
pub mod HitLemmas
pub mod SearchLemmas
pub mod NumberLemmas
pub mod NarrowLemmas
pub mod SpotLemmas
pub mod WorkLemmas
