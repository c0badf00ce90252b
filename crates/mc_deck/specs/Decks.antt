-- The lines of a deck, and what holds of every deck.
use Rattle.std.specs.Prelude.{ℕ, List, length}
use Rattle.std.specs.List.{AllByRecursion}
use Rattle.model_play.specs.DeckGrammar.{DeckLine}
use Rattle.model_play.specs.ReadyAgain.{IsLine}
use Rattle.mc_deck.specs.declared.deck.Deck.TheInside.{Inside as DeckFields}
use Rattle.mc_deck.specs.Lines.{said_lines, UnitWithin, AreDeck}

-- the lines of a deck
abbrev pub deck_view : DeckFields → List (ℕ × DeckLine)
deck_view d = said_lines d.units.items d.lines.items

-- each `load` has its unit, the lines are those of a deck, and their data are bytes
pub record KeepsDeck (d : DeckFields) : Type 0 where
  pub inside : AllByRecursion (λ l. UnitWithin (length d.units.items) l.1) d.lines.items
  pub deck : AreDeck (deck_view d)
  pub bytes : AllByRecursion (λ l. IsLine l.1) (deck_view d)
