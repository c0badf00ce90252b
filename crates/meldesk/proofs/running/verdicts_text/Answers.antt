use Rattle.std.proofs.Common.{◌≡◌, ℕ, List, rules, subst}
use Rattle.std.proofs.lemmas.Result.{err_from_is_err_and}
use Rattle.desk_draft.specs.declared.source.Source.{Source}
use Rattle.desk_draft.specs.Loads.{desk_value, AreLoads}
use Rattle.desk_draft.specs.Sources.{sources_value}
use Rattle.meldesk.proofs.RunLemmas.{check_made, check_rejected}
use Rattle.meldesk.proofs.running.verdicts_text.Goals as goal

pub returns-in_err-desk : goal.returns-in_err-desk
returns-in_err-desk c =
    let p = err_from_is_err_and c.from_residual.result c.from_residual.ensures.1 in
    rw (p.1, p.2) (check_rejected c.args.draft.now c.in_err-desk.field-0.0 c.in_err-desk.ensures.rejected)

pub returns : goal.returns
returns c =
    let d = desk_value c.in_ok-desk.desk in
    let text : c.as_slice.result.now ≡ c.in_ok-desk.desk.text.items = search rules in
    let sources : c.as_slice-2.result.now ≡ c.in_ok-desk.desk.sources.items = search rules in
    let by_text = subst (λ (t : List ℕ). AreLoads c.in_ok-loads.loads t (sources_value c.as_slice-2.result.now)) text c.in_ok-loads.ensures in
    let loads = subst (λ (ss : List Source). AreLoads c.in_ok-loads.loads d.deck (sources_value ss)) sources by_text in
    check_made c.args.draft.now c.in_ok-verdicts_of.field-0.text.items c.in_ok-verdicts_of.field-0.passes d c.in_ok-desk.ensures.short c.in_ok-desk.ensures.desk (c.in_ok-verdicts_of.ensures d loads)
