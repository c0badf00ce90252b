use Rattle.std.proofs.Common.{◌≡◌, ◌∙◌, Ok, ap, rules, sym}
use Rattle.desk_draft.specs.Listings.{listing_of}
use Rattle.desk_draft.specs.Loads.{desk_value}
use Rattle.desk_draft.specs.Sources.{sources_value}
use Rattle.desk_draft.proofs.DeskLemmas.{listing_made}
use Rattle.desk_draft.proofs.listing.list.Goals as goal

pub returns-clause-listing : goal.returns-clause-listing
returns-clause-listing c =
    let same : c.as_slice.result.now ≡ c.in_ok-desk.desk.sources.items = search rules in
    listing_made c.args.draft.now (desk_value c.in_ok-desk.desk) c.in_ok-desk.ensures.desk ∙ ap Ok (ap (λ ss. listing_of (sources_value ss)) (sym same) ∙ sym c.in_ok-listing_of.ensures)
