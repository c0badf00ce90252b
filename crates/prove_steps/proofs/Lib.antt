pub mod ChoiceLemmas
pub mod CrudeLemmas
pub mod SceneLemmas
pub mod StepLemmas
pub mod TargetLemmas
