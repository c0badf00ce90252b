pub mod RisingLemmas
mod BelowLemmas
mod SectionLemmas
mod RemarkLemmas
mod LayingLemmas
mod ExpectedDeckLemmas
mod StageLemmas
mod ExpectLemmas
pub mod SweepPlays
pub mod SweepChanges
pub mod SweepRuns
pub mod SweepReported
pub mod SweepLawLemmas
pub mod SweepHits
pub mod SweepTexts
mod SweepAccounts
mod SweepNames
mod SweepLoops
mod SweepPlayers
mod SweepFrontLemmas
mod SweepRows
mod SweepDecks
