pub mod Reading
pub mod Decks
-- the libraries below that those above cite through this one
pub use Rattle.model_rules.specs.model_device as model_device
pub use Rattle.model_rules.specs.model_machine as model_machine
pub use Rattle.model_rules.specs.model_text as model_text
pub use Rattle.model_rules.specs.model_events as model_events
pub use Rattle.model_rules as model_rules
pub use Rattle.model_play.specs.model_card as model_card
pub use Rattle.model_play as model_play
