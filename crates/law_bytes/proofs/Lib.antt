pub mod ByteLists
pub mod CipherBytes
pub mod RowBytes
pub mod ChainBytes
pub mod CardBytes
pub mod CommandBytes
pub mod PlayBytes
