use Rattle.std.proofs.Common.{◌≡◌, ◌++◌, drop}
use Rattle.model_play.specs.model_text.specs.Text.{ok_as}
use Rattle.model_play.specs.DeckGrammar.{section_data}
use Rattle.mc_asm.specs.Passes.{numbered_lines}
use Rattle.mc_deck.proofs.section.section_data.Given as goal

-- the data so far, and those of the lines that are left, are the data of the whole
abbrev pub invariant-loop-line : goal.invariant-loop-line
invariant-loop-line l = ok_as (λ rest. l.bytes.items ++ rest) (section_data (numbered_lines (drop l.line-index l.lines))) ≡ section_data (numbered_lines l.fn.lines)
