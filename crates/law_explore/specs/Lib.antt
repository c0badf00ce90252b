pub mod Rules
pub mod States
pub mod Tries
pub mod Search
pub mod Safety
-- the libraries below that those above cite through this one
pub use Rattle.model_play.specs.model_device as model_device
pub use Rattle.model_play.specs.model_machine as model_machine
pub use Rattle.model_play.specs.model_text as model_text
pub use Rattle.model_play.specs.model_card as model_card
pub use Rattle.model_play as model_play
pub use Rattle.model_events as model_events
