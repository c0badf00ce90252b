pub mod FrameLemmas
pub mod PublicLemmas
pub mod StackLemmas
pub mod PendingLemmas
pub mod AccessLemmas
pub mod PutLemmas
pub mod StoreLemmas
pub mod StoredLemmas
