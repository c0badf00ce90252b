use Rattle.law_prove_closed.proofs.Rows.{all_leads}
use Rattle.law_prove_closed.proofs.rows_lead_into_tables.Goals as goal

pub returns : goal.returns
returns c = all_leads
