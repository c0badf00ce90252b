pub mod BitLemmas
pub mod CountLemmas
pub mod FactLemmas
pub mod PackedLemmas
pub mod SetLemmas
pub mod CoverLemmas
pub mod LeastLemmas
pub mod MoveLemmas
