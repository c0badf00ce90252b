pub mod TablesLemmas
pub mod StateLemmas
pub mod RoundsLemmas
pub mod KeysLemmas
pub mod CipherLemmas
pub mod AesLemmas
pub mod LawsLemmas
