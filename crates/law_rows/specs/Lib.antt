pub mod Keeping
pub mod ShapeLaw
pub mod Carry
-- the libraries below that those above cite through this one
pub use Rattle.model_machine.specs.model_device as model_device
pub use Rattle.model_machine as model_machine
