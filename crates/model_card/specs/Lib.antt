pub mod Units
pub mod Items
pub mod Manager
pub mod Commands
pub mod Words
-- the libraries below that those above cite through this one
pub use Rattle.model_machine.specs.model_device as model_device
pub use Rattle.model_machine as model_machine
