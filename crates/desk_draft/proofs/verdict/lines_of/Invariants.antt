use Rattle.std.proofs.Common.{◌≡◌, ◌++◌, length}
use Rattle.mc_text.specs.model_text.specs.Text.{lines}
use Rattle.mc_asm.specs.Items.{texts}
use Rattle.desk_draft.proofs.verdict.lines_of.Given as goal

-- the lines so far, followed by those of the text that is left, are those of the whole
abbrev pub invariant-loop-line : goal.invariant-loop-line
invariant-loop-line l = texts l.lines.items ++ lines l.rest ≡ lines l.fn.text

abbrev pub decreases-loop-line : goal.decreases-loop-line
decreases-loop-line l = length l.rest
