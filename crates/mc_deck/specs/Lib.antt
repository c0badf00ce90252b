pub use Rattle.model_play.specs.DeckGrammar
pub use Rattle.model_play.specs.Generator
pub mod Refused
pub mod Lines
pub mod Decks
pub mod Contexts
pub mod Statements
pub mod Sections
pub mod Readers
pub mod Generated
-- the libraries below that those above cite through this one
pub use Rattle.model_play.specs.model_card as model_card
pub use Rattle.model_play as model_play
pub use Rattle.law_family.specs.law_rows as law_rows
pub use Rattle.law_family as law_family
