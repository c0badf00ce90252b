use Rattle.std.proofs.Common.{codes}
use Rattle.mc_text.proofs.TextLemmas.{puts_failed, fails_before}
use Rattle.lab_search.proofs.report.put_statement.Goals as goal

pub returns-in_err-put : goal.returns-in_err-put
returns-in_err-put g c = puts_failed c.from_residual.result c.from_residual.ensures.0 (fails_before (codes "\n") c.in_err-put.ensures)
