mod PlayerLemmas
mod CountedLines
mod MoveLemmas
mod RestoreLemmas
mod RestoringLemmas
mod TryLemmas
pub mod AlikeLemmas
pub mod SameKept
mod BaseLemmas
pub mod AttemptLemmas
mod BeginLemmas
mod TallyLemmas
pub mod KeptLemmas
pub mod RoundLemmas
mod CourseLemmas
pub mod EndingLemmas
mod PathLemmas
pub mod HaltLemmas
pub mod StartLemmas
mod DepthLemmas
