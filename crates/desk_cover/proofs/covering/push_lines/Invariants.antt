use Rattle.std.proofs.Common.{◌≡◌, ◌++◌, drop}
use Rattle.std.specs.Prelude.{map}
use Rattle.desk_cover.specs.Counting.{new_line}
use Rattle.desk_draft.specs.Sources.{code_line_value}
use Rattle.desk_cover.proofs.covering.push_lines.Given as goal

-- the lines that are left, added from here, are all lines added from the start
abbrev pub invariant-loop-line : goal.invariant-loop-line
invariant-loop-line l = l.lines.items ++ map (λ x. new_line l.index (code_line_value l.code x)) (drop l.line-index l.line-items) ≡ l.fn.lines.items ++ map (λ x. new_line l.index (code_line_value l.code x)) l.line-items
