use Rattle.law_explore.proofs.Recoveries.{recovery_law}
use Rattle.law_explore.proofs.laws.recoveries_lead_to_one_state.Goals as goal

pub returns : goal.returns
returns c = recovery_law
