use Rattle.std.proofs.Common.{◌≡◌, drop}
use Rattle.std.specs.Prelude.{map}
use Rattle.desk_draft.specs.Listings.{line_at}
use Rattle.desk_draft.specs.Sources.{code_line_value, source_value}
use Rattle.desk_draft.proofs.source.Source.line_at.Given as goal

-- the line with the place is among those that are left
abbrev pub invariant-loop-line : goal.invariant-loop-line
invariant-loop-line l = line_at (map (code_line_value l.self.code.items) (drop l.line-index l.self.lines.items)) l.place ≡ line_at (source_value l.self).lines l.place
