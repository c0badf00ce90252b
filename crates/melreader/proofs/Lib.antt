mod DeckLemmas
mod SessionLemmas
