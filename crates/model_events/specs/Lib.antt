pub mod Patterns
pub mod Matching
pub mod Amounts
pub mod Deeds
-- the libraries below that those above cite through this one
pub use Rattle.model_text.specs.model_device as model_device
pub use Rattle.model_text.specs.model_machine as model_machine
pub use Rattle.model_text as model_text
