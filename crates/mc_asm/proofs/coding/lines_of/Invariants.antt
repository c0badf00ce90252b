use Rattle.std.proofs.Common.{◌≡◌, ◌+◌, ◌++◌, length, vec_len}
use Rattle.model_text.specs.Text.{lines, with_numbers}
use Rattle.mc_asm.specs.Passes.{numbered_lines}
use Rattle.mc_asm.proofs.coding.lines_of.Given as goal

-- the lines so far, followed by those of the text that is left, are the lines of the whole
abbrev pub invariant-loop-line : goal.invariant-loop-line
invariant-loop-line l = numbered_lines l.lines.items ++ with_numbers (vec_len l.lines + 1) (lines l.rest) ≡ with_numbers 1 (lines l.fn.text)

abbrev pub decreases-loop-line : goal.decreases-loop-line
decreases-loop-line l = length l.rest
