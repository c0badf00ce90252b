use Rattle.std.proofs.Common.{◌≡◌, ◌++◌, drop}
use Rattle.std.specs.Prelude.{map}
use Rattle.desk_draft.specs.Sources.{span_of, spans_from}
use Rattle.desk_draft.specs.Written.{line_value}
use Rattle.desk_draft.proofs.source.code_lines.Given as goal

-- the places so far, followed by those of the lines that are left, are those of the whole
abbrev pub invariant-loop-line : goal.invariant-loop-line
invariant-loop-line l = map span_of l.code_lines.items ++ spans_from l.place (map (line_value l.deck) (drop l.line-index l.lines)) ≡ spans_from 0 (map (line_value l.deck) l.lines)
