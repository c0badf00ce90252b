pub mod Bank
pub mod Slots
pub mod SlotLaws
pub mod Memory
pub mod EntryLaws
pub mod MemoryLaws
pub mod Shown
pub mod Left
-- the libraries below that those above cite through this one
pub use Rattle.model_card as model_card
