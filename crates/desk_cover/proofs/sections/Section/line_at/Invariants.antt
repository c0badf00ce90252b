use Rattle.std.proofs.Common.{◌≡◌, drop}
use Rattle.std.specs.Prelude.{map}
use Rattle.desk_draft.specs.Listings.{line_at}
use Rattle.desk_draft.specs.Sources.{code_line_value}
use Rattle.desk_cover.proofs.sections.Section.line_at.Given as goal

-- the line among those that are left is the one among all lines
abbrev pub invariant-loop-line : goal.invariant-loop-line
invariant-loop-line l = line_at (map (code_line_value l.self.code) (drop l.line-index l.line-items)) l.place ≡ line_at l.self.lines l.place
