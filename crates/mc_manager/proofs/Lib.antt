pub mod NameLemmas
pub mod SelectLemmas
pub mod LoadLemmas
pub mod EndsLemmas
pub mod StaleLemmas
pub mod CommitLemmas
