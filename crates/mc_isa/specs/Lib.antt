pub use Rattle.model_text.specs.model_machine.specs.Code
pub use Rattle.model_text.specs.Listing
pub mod Lengths
pub mod Reading
pub mod Rows
pub mod Operations
pub mod Primitives
-- the libraries below that those above cite through this one
pub use Rattle.model_text.specs.model_device as model_device
pub use Rattle.model_text.specs.model_machine as model_machine
pub use Rattle.model_text as model_text
pub use Rattle.law_rows as law_rows
