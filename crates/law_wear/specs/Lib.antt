pub mod Most
pub mod Laws
pub mod OfWord
pub mod WordLaws
pub mod Computed
pub mod Decks
