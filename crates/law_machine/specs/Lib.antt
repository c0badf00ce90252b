pub mod Limited
pub mod FewWords
pub mod FewRuns
pub mod FewHeaders
-- the libraries below that those above cite through this one
pub use Rattle.model_card.specs.model_device as model_device
pub use Rattle.model_card.specs.model_machine as model_machine
pub use Rattle.model_card as model_card
pub use Rattle.law_rows as law_rows
