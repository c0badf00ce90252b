pub mod ClassLemmas
pub mod HeaderLemmas
pub mod LengthLemmas
pub mod LineLemmas
pub mod ReachLemmas
pub mod ReplyLemmas
pub mod SignLemmas
pub mod WayLemmas
