pub mod Parts
pub mod Declarations
pub mod Operands
pub mod Statements
pub mod Rules
pub mod Drafts
pub mod Listings
pub mod Verdicts
pub mod FullTurns
pub mod Traces
pub mod Coverage
pub mod Views
pub mod Written
pub mod Sources
pub mod Loads
pub mod Laws
pub mod PurseDraft
pub mod Computed
-- the libraries below that those above cite through this one
pub use Rattle.mc_deck.specs.model_card as model_card
pub use Rattle.mc_deck.specs.model_play as model_play
