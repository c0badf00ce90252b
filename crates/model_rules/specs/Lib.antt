pub mod Rules
pub mod Happenings
pub mod Keeping
pub mod Loadable
-- the libraries below that those above cite through this one
pub use Rattle.model_events.specs.model_device as model_device
pub use Rattle.model_events.specs.model_machine as model_machine
pub use Rattle.model_events.specs.model_text as model_text
pub use Rattle.model_events as model_events
