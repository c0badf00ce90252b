pub mod OfBytes
pub mod OfChains
pub mod OfPlays
-- the libraries below that those above cite through this one
pub use Rattle.law_family.specs.model_card as model_card
pub use Rattle.law_family.specs.model_play as model_play
pub use Rattle.law_family.specs.law_rows as law_rows
pub use Rattle.law_family.specs.law_machine as law_machine
pub use Rattle.law_family.specs.law_manager as law_manager
pub use Rattle.law_family as law_family
