use Rattle.std.proofs.Common.{◌≡◌, ◌++◌, drop}
use Rattle.mc_asm.specs.Passes.{numbered_lines}
use Rattle.desk_draft.proofs.CodeLemmas.{program}
use Rattle.desk_draft.proofs.source.program_of.Given as goal

-- the lines so far, followed by those that are left, are those of the whole
abbrev pub invariant-loop-line : goal.invariant-loop-line
invariant-loop-line l = numbered_lines l.program.items ++ program l.deck (drop l.line-index l.lines) ≡ program l.deck l.lines
