pub mod Rules
pub mod Sums
-- the libraries below that those above cite through this one
pub use Rattle.model_rules.specs.model_device as model_device
pub use Rattle.model_rules.specs.model_events as model_events
pub use Rattle.model_rules as model_rules
