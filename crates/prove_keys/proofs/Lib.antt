pub mod ListLemmas
pub mod SameLemmas
pub mod KeyLemmas
pub mod TableLemmas
pub mod WithinLemmas
