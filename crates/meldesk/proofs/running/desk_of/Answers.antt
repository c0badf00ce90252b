use Rattle.std.proofs.Common.{◌≡◌, Ok, false}
use Rattle.std.proofs.lemmas.Result.{err_from_is_err_and}
use Rattle.desk_draft.specs.Listings.{desk_read}
use Rattle.desk_draft.specs.Loads.{desk_value}
use Rattle.mc_filter.specs.Inputs.{Rejects}
use Rattle.meldesk.specs.Running.{draft_with, refused_desk}
use Rattle.meldesk.specs.Verdicts.{has_long_deck}
use Rattle.meldesk.proofs.RunLemmas.{draft_rejected, err_of_draft, is_draft_with, ok_of_draft}
use Rattle.meldesk.proofs.running.desk_of.Goals as goal

pub returns-in_err-text-clause-rejected : goal.returns-in_err-text-clause-rejected
returns-in_err-text-clause-rejected c =
    let p = err_from_is_err_and c.from_residual.result c.from_residual.ensures.1 in
    rw (p.1, p.2) (draft_rejected c.args.text.now c.in_err-text.field-0.0 c.in_err-text.ensures.rejected)

pub returns-clause-desk : goal.returns-clause-desk
returns-clause-desk c =
    let d = c.in_ok-text.field-0 in
    let sections = c.as_slice.result.now in
    ok_of_draft c.args.text.now (draft_with d.deck.items sections) c.desk_with.result (λ t x. desk_read t ≡ Ok (desk_value x)) (is_draft_with c.args.text.now d sections c.in_ok-text.ensures.draft c.as_slice.ensures.value) c.desk_with.ensures.desk

pub returns-clause-short : goal.returns-clause-short
returns-clause-short c =
    let d = c.in_ok-text.field-0 in
    let sections = c.as_slice.result.now in
    ok_of_draft c.args.text.now (draft_with d.deck.items sections) c.desk_with.result (λ t x. has_long_deck t ≡ false) (is_draft_with c.args.text.now d sections c.in_ok-text.ensures.draft c.as_slice.ensures.value) c.desk_with.ensures.short

pub returns-clause-rejected : goal.returns-clause-rejected
returns-clause-rejected c =
    let d = c.in_ok-text.field-0 in
    let sections = c.as_slice.result.now in
    err_of_draft c.args.text.now (draft_with d.deck.items sections) c.desk_with.result (λ t. Rejects (refused_desk (has_long_deck t) (desk_read t))) (is_draft_with c.args.text.now d sections c.in_ok-text.ensures.draft c.as_slice.ensures.value) c.desk_with.ensures.rejected
