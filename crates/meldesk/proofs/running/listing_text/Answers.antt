use Rattle.std.proofs.Common.{◌≡◌, ◌∙◌, List, true, ap, rules}
use Rattle.std.proofs.lemmas.Result.{err_from_is_err_and}
use Rattle.desk_draft.specs.declared.source.Source.{Source}
use Rattle.desk_draft.specs.Listings.{listing_of}
use Rattle.desk_draft.specs.Loads.{desk_value}
use Rattle.desk_draft.specs.Sources.{sources_value}
use Rattle.meldesk.specs.Verdicts.{Whole}
use Rattle.meldesk.proofs.RunLemmas.{listing_made, listing_rejected}
use Rattle.meldesk.proofs.running.listing_text.Goals as goal

pub returns-in_err-desk : goal.returns-in_err-desk
returns-in_err-desk c =
    let p = err_from_is_err_and c.from_residual.result c.from_residual.ensures.1 in
    rw (p.1, p.2) (listing_rejected c.args.draft.now c.in_err-desk.field-0.0 c.in_err-desk.ensures.rejected)

pub returns : goal.returns
returns c =
    let same : c.as_slice.result.now ≡ c.in_ok-desk.desk.sources.items = search rules in
    ap (Whole true) (c.in_ok-text.ensures ∙ ap (λ (ss : List Source). listing_of (sources_value ss)) same)
    ∙ listing_made c.args.draft.now (desk_value c.in_ok-desk.desk) c.in_ok-desk.ensures.short c.in_ok-desk.ensures.desk
