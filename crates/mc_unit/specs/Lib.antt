pub mod Parts
pub mod Rows
-- the libraries below that those above cite through this one
pub use Rattle.model_card.specs.model_machine as model_machine
pub use Rattle.model_card as model_card
