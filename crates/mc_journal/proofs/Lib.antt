pub mod PutLemmas
pub mod LookLemmas
