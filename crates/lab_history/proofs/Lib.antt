mod DigitLemmas
mod GroupLemmas
mod BlockLemmas
mod DoneLemmas
mod NameLemmas
mod SumLemmas
