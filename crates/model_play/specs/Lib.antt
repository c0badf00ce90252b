pub mod DeckGrammar
pub mod Play
pub mod Transcript
pub mod TraceText
pub mod Family
pub mod Given
pub mod Solo
pub mod View
pub mod ReadyAgain
pub mod Laws
pub mod Generator
pub mod Words
pub mod RuleLines
-- the libraries below that those above cite through this one
pub use Rattle.model_card.specs.model_device as model_device
pub use Rattle.model_card.specs.model_machine as model_machine
pub use Rattle.model_text as model_text
pub use Rattle.model_card as model_card
