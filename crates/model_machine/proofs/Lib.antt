pub mod ModesLemmas
