pub mod SummedLemmas
pub mod FirstDeck
