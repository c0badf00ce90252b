use Rattle.std.proofs.Common.{◌≡◌, ◌++◌, drop}
use Rattle.model_play.specs.DeckGrammar.{section_program}
use Rattle.mc_asm.specs.Passes.{numbered_lines}
use Rattle.mc_deck.proofs.section.section_program.Given as goal

-- the lines so far, and those of the lines that are left, are the lines of the whole
abbrev pub invariant-loop-line : goal.invariant-loop-line
invariant-loop-line l = numbered_lines l.program.items ++ section_program (numbered_lines (drop l.line-index l.lines)) ≡ section_program (numbered_lines l.fn.lines)
