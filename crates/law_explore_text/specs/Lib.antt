pub mod Report
pub mod TextSafety
pub mod Computed
pub mod Decks
-- the libraries below that those above cite through this one
pub use Rattle.law_explore.specs.model_device as model_device
pub use Rattle.law_explore.specs.model_machine as model_machine
pub use Rattle.law_explore.specs.model_text as model_text
pub use Rattle.law_explore.specs.model_card as model_card
pub use Rattle.law_explore.specs.model_play as model_play
pub use Rattle.law_explore as law_explore
