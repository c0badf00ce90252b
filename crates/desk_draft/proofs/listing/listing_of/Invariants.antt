use Rattle.std.proofs.Common.{◌≡◌, ◌++◌, drop}
use Rattle.desk_draft.specs.Listings.{listing_of}
use Rattle.desk_draft.specs.Sources.{sources_value}
use Rattle.desk_draft.proofs.listing.listing_of.Given as goal

-- the text so far, followed by the sections that are left, is that of all sections
abbrev pub invariant-loop-source : goal.invariant-loop-source
invariant-loop-source l = l.text.items ++ listing_of (sources_value (drop l.source-index l.sources)) ≡ listing_of (sources_value l.sources)
