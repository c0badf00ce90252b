pub mod TablesLemmas
pub mod BitsLemmas
pub mod CipherFunction
pub mod BlockLemmas
pub mod ScheduleLemmas
pub mod DesLemmas
pub mod LawsLemmas
pub mod PassLemmas
