pub mod OutlineLemmas
pub mod WalkLemmas
pub mod MoreLemmas
pub mod NumberLemmas
pub mod FollowLemmas
pub mod LineLemmas
pub mod OriginLemmas
pub mod ValueLemmas
