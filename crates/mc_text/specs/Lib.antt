pub use Rattle.model_text.specs.Text
pub use Rattle.model_text.specs.TurnText
pub use Rattle.mc_streams.specs.Streams
pub mod Texts
pub mod Logs
pub mod Reading
-- the libraries below that those above cite through this one
pub use Rattle.model_text.specs.model_device as model_device
pub use Rattle.model_text.specs.model_machine as model_machine
pub use Rattle.model_text as model_text
