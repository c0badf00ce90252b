pub mod Apdu
pub mod Code
pub mod Frame
pub mod Blocks
pub mod Modes
pub mod Des
pub mod Aes
pub mod Primitives
pub mod Row
pub mod Chain
pub mod Words
pub mod Shapes
-- the libraries below that those above cite through this one
pub use Rattle.model_device as model_device
