pub use Rattle.mc_bank.specs.model_card.specs.Commands
pub use Rattle.mc_store.specs.Power
pub mod ItemWrites
pub mod Parts
pub mod Ends
pub mod Managing
pub mod Saved
