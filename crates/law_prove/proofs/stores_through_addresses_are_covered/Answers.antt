use Rattle.law_prove.proofs.Stores.{store_law}
use Rattle.law_prove.proofs.stores_through_addresses_are_covered.Goals as goal

pub returns : goal.returns
returns c = store_law
