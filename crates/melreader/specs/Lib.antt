pub mod Decks
pub mod Sessions
pub mod Program
