-- The deck of a move.
use Rattle.std.specs.Prelude.{◌≡◌, ℕ, List, [], ◌∷◌, Result, Ok, Err}
use Rattle.law_explore.specs.model_play.specs.declared.deck.DeckCause.{DeckCause}
use Rattle.law_explore.specs.model_play.specs.DeckGrammar.{DeckLine}
use Rattle.law_explore.specs.model_play.specs.DeckGrammar as line

-- the deck of a `power` line and a line
abbrev pub move_deck : DeckLine → List (ℕ × DeckLine)
move_deck l = (1, line.Power) ∷ (2, l) ∷ []

-- a deck is that of a `power` line and a line that was read
abbrev pub IsMoveDeck : List (ℕ × DeckLine) → Result DeckLine DeckCause → Type 0
IsMoveDeck d (Ok l) = d ≡ move_deck l
IsMoveDeck d (Err e) = ⊥
