use Rattle.std.proofs.Common.{refl}
use Rattle.std.specs.Fmt.{digits}
use Rattle.model_text.specs.Listing.{listing_of_code}
use Rattle.mc_isa.proofs.worked.listings.Goals as goal

pub returns : goal.returns
unfolding listing_of_code digits
returns c = record { counter = refl; empty = refl; undefined = refl; past = refl }
