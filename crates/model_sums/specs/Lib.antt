pub mod Forms
pub mod Origins
pub mod Sums
pub mod Says
pub mod Writes
pub mod Operations
pub mod Moves
pub mod Events
pub mod Closed
-- the libraries below that those above cite through this one
pub use Rattle.model_prove.specs.model_device as model_device
pub use Rattle.model_prove.specs.model_machine as model_machine
pub use Rattle.model_prove.specs.model_rules as model_rules
pub use Rattle.model_prove as model_prove
pub use Rattle.model_prove.specs.model_text as model_text
pub use Rattle.model_prove.specs.model_events as model_events
