pub mod RunLemmas
pub mod LineLemmas
pub mod TurnLemmas
pub mod OpenLemmas
