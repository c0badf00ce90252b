-- Sections as the code has them, and the sections of the grammar that they are.
use Rattle.std.specs.Prelude.{ℕ, List, Result}
use Rattle.model_play.specs.model_text.specs.Text.{err_as}
use Rattle.model_play.specs.model_card.specs.Units.{UnitParts}
use Rattle.model_play.specs.DeckGrammar
use Rattle.model_play.specs.model_text.specs.Assembly.{assembled_lines}
use Rattle.model_play.specs.DeckGrammar.{section_program, unit_within}
use Rattle.model_play.specs.declared.deck.DeckCause.{DeckCause}
use Rattle.model_play.specs.declared.deck.DeckCause.TheVariants.{Asm, Unit}
use Rattle.mc_asm.specs.Passes.{numbered_lines}
use Rattle.mc_deck.specs.declared.section.Section.{Section}

-- the section of the grammar that a section of the code is
abbrev pub section_of : Section → DeckGrammar.Section
section_of s = record { first = s.first; name = s.name.now; aid = s.aid; lines = numbered_lines s.lines.items }

-- a made unit, or its refusal at line n if it exceeds the limits
abbrev pub unit_judged : ℕ → UnitParts → Result UnitParts (ℕ × DeckCause)
unit_judged n u = err_as (λ e. (n, Unit e)) (unit_within u)

-- the code of the lines of a section
abbrev pub section_code : List (ℕ × List ℕ) → Result (List ℕ) (ℕ × DeckCause)
section_code ls = err_as (λ e. (e.0, Asm e.1)) (assembled_lines (section_program ls))
