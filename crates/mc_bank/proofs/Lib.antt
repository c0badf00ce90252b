pub mod ShownLemmas
pub mod LeftLemmas
pub mod FillLemmas
pub mod OpenLemmas
pub mod Commits
