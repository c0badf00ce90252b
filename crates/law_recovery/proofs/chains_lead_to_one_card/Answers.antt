use Rattle.law_recovery.proofs.Chains.{chain_law}
use Rattle.law_recovery.proofs.chains_lead_to_one_card.Goals as goal

pub returns : goal.returns
returns c = record { one_card = chain_law }
