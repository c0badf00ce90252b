pub mod TextLemmas
pub mod CodeLemmas
pub mod CheckingLemmas
pub mod DumpLemmas
pub mod StatusLemmas
pub mod Completeness
