use Rattle.mc_asm.proofs.RoundTripLemmas.{listing_again}
use Rattle.model_text.specs.model_device.proofs.ListLemmas.{all_bytes}
use Rattle.mc_asm.proofs.listing.list.Goals as goal

pub returns-clause-again : goal.returns-clause-again
returns-clause-again c = listing_again (λ v. v.items) c.args.code.now c.listing_of.result (all_bytes c.args.code.now c.type_inv.code) c.requires c.listing_of.ensures.text
