pub mod Name
-- the libraries below that those above cite through this one
pub use Rattle.model_device as model_device
