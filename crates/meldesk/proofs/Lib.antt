pub mod CheckLemmas
pub mod RunLemmas
pub mod StatusLemmas
pub mod PlayLemmas
pub mod Completeness
