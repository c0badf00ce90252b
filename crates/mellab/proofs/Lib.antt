mod StatusLemmas
mod Completeness
mod ReportedLemmas
mod DepthLemmas
mod ExplorationLemmas
mod ApplicationLemmas
mod RuleLemmas
