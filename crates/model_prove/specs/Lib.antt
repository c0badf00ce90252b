pub mod Sets
pub mod Facts
pub mod Compares
pub mod Digits
pub mod Keys
pub mod Texts
pub mod Splits
pub mod Work
pub mod Reach
pub mod Arrivals
pub mod Steps
pub mod Between
pub mod Tables
pub mod Laws
-- the libraries below that those above cite through this one
pub use Rattle.model_rules.specs.model_device as model_device
pub use Rattle.model_rules.specs.model_machine as model_machine
pub use Rattle.model_rules.specs.model_text as model_text
pub use Rattle.model_rules as model_rules
pub use Rattle.model_rules.specs.model_events as model_events
