use Rattle.std.proofs.Common.{sym}
use Rattle.law_explore_text.specs.law_explore.specs.Search.{path_statements}
use Rattle.law_explore_text.specs.Report.{statements_text}
use Rattle.mc_text.proofs.TextLemmas.{fails_before, puts_as, puts_failed, puts_then}
use Rattle.lab_search.specs.Endings.{lead_list}
use Rattle.lab_search.proofs.EndingLemmas.{statements_append}
use Rattle.lab_search.proofs.endings.put_path.Goals as goal

pub returns-in_err-put_lead : goal.returns-in_err-put_lead
returns-in_err-put_lead g c =
    λ ms ts h k. puts_as _ _ c.from_residual.result (sym (statements_append (lead_list c.args.lead) (path_statements ts)))
    (puts_failed c.from_residual.result c.from_residual.ensures.0 (fails_before (statements_text (path_statements ts)) c.in_err-put_lead.ensures))

pub returns : goal.returns
returns g c =
    λ ms ts h k. puts_as _ _ c.put_steps.result (sym (statements_append (lead_list c.args.lead) (path_statements ts)))
    (puts_then _ (statements_text (path_statements ts)) c.put_steps.result c.in_ok-put_lead.ensures (c.put_steps.ensures ms ts h k))
