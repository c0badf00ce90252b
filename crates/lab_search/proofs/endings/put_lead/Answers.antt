use Rattle.std.proofs.Common.{codes}
use Rattle.mc_text.proofs.TextLemmas.{fails_before, puts_as, puts_failed, puts_then}
use Rattle.lab_search.specs.Endings.{text_if}
use Rattle.lab_search.specs.Reports.{statement_line}
use Rattle.lab_search.proofs.EndingLemmas.{lead_text}
use Rattle.lab_search.proofs.endings.put_lead.Goals as goal

pub returns-in_err-put_if : goal.returns-in_err-put_if
returns-in_err-put_if g c =
    puts_as _ _ c.from_residual.result (lead_text c.args.lead.armed c.args.lead.power)
    (puts_failed c.from_residual.result c.from_residual.ensures.0 (fails_before (text_if c.args.lead.power (statement_line (codes "power"))) c.in_err-put_if.ensures))

pub returns : goal.returns
returns g c =
    puts_as _ _ c.put_if-2.result (lead_text c.args.lead.armed c.args.lead.power)
    (puts_then _ (text_if c.args.lead.power (statement_line (codes "power"))) c.put_if-2.result c.in_ok-put_if.ensures c.put_if-2.ensures)
