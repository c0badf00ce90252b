use Rattle.std.proofs.Common.{◌≡◌, ◌++◌}
use Rattle.std.specs.Prelude.{map, option_map}
use Rattle.mc_asm.proofs.LineLemmas.{left_of}
use Rattle.desk_draft.specs.Parts.{ended_lines}
use Rattle.desk_draft.specs.Views.{ended_line_of}
use Rattle.desk_draft.proofs.LineLemmas.{left_lines}
use Rattle.desk_draft.proofs.line.ended_lines.Given as goal

-- the lines so far, and those of the text that is left, are all
abbrev pub invariant-loop-rest : goal.invariant-loop-rest
invariant-loop-rest l = map ended_line_of l.lines.items ++ left_lines (option_map (λ t. t.now) l.rest) ≡ ended_lines l.fn.text

abbrev pub decreases-loop-rest : goal.decreases-loop-rest
decreases-loop-rest l = left_of (option_map (λ t. t.now) l.rest)
