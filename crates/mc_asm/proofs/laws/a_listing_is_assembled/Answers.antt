use Rattle.mc_asm.proofs.RoundTripLemmas.{listing_assembled}
use Rattle.mc_asm.proofs.laws.a_listing_is_assembled.Goals as goal

pub returns : goal.returns
returns c = listing_assembled
