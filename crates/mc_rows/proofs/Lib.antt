pub mod AloneLemmas
pub mod BlockLemmas
pub mod FrameLemmas
