pub mod StreamsLemmas
