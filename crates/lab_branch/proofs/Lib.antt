mod BranchLemmas
pub mod Insertions
pub mod Gathering
pub mod SectionSteps
pub mod Parts
pub mod SameRosters
pub mod SameCards
