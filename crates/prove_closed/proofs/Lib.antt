pub mod RangeLemmas
pub mod LoopLemmas
pub mod ClassLemmas
pub mod AcceptLemmas
pub mod ClosingLemmas
