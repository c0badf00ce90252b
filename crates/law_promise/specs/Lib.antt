pub mod History
pub mod Along
pub mod Outline
pub mod Kept
pub mod Domain
pub mod Found
pub mod Counter
pub mod Computed
-- the libraries below that those above cite through this one
pub use Rattle.law_bytes.specs.model_card as model_card
pub use Rattle.law_bytes.specs.model_play as model_play
pub use Rattle.law_bytes.specs.law_rows as law_rows
pub use Rattle.law_bytes.specs.law_machine as law_machine
pub use Rattle.law_bytes.specs.law_manager as law_manager
pub use Rattle.law_bytes.specs.law_family as law_family
pub use Rattle.law_bytes as law_bytes
pub use Rattle.model_events as model_events
