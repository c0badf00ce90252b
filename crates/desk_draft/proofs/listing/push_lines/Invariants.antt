use Rattle.std.proofs.Common.{◌≡◌, ◌++◌, drop}
use Rattle.std.specs.Prelude.{flat_map, map}
use Rattle.desk_draft.specs.Listings.{listing_line}
use Rattle.desk_draft.specs.Sources.{code_line_value, source_value}
use Rattle.desk_draft.proofs.listing.push_lines.Given as goal

-- the text so far, followed by the lines that are left, is the old text with all lines
abbrev pub invariant-loop-line : goal.invariant-loop-line
invariant-loop-line l =
    l.text.items ++ flat_map listing_line (map (code_line_value l.source.code.items) (drop l.line-index l.source.lines.items)) ≡ l.fn.text.items ++ flat_map listing_line (source_value l.source).lines
