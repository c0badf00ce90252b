-- The laws of drafts, their decks and their plays.
use Rattle.std.specs.Prelude.{◌≡◌, ℕ, ◌==◌, List, map, flat_map, length, Option, Ok}
use Rattle.mc_text.specs.model_text.specs.Text.{pieces}
use Rattle.mc_text.specs.model_text.specs.Assembly.{assembled_lines}
use Rattle.mc_deck.specs.model_play.specs.DeckGrammar.{DeckLine, deck_read}
use Rattle.mc_deck.specs.model_play.specs.Play.{State, FailedWrite, step}
use Rattle.desk_draft.specs.Drafts.{Section, deck_of}
use Rattle.desk_draft.specs.Listings.{source_of, program_of}
use Rattle.desk_draft.specs.FullTurns.{turns_of_line_in}

-- a deck that is read is a draft, and makes itself, byte for byte
abbrev pub DeckMakesItself : Type 0
DeckMakesItself = (text : List ℕ) (lines : List (ℕ × DeckLine)) → deck_read text ≡ Ok lines → deck_of text ≡ Ok text

-- a draft and its deck have as many lines
abbrev pub LinesStay : Type 0
LinesStay =
    (draft deck : List ℕ)
    → deck_of draft ≡ Ok deck → length (pieces (λ c. c == 10) deck) ≡ length (pieces (λ c. c == 10) draft)

-- the code of a section is that of its lines, one after the other
abbrev pub CodeIsOfLines : Type 0
CodeIsOfLines =
    (s : Section) (code : List ℕ)
    → assembled_lines (program_of s) ≡ Ok code → flat_map (λ l. l.bytes) (source_of s).lines ≡ code

-- without what surrounds them, the turns of a line are those of its step
abbrev pub TurnsAreOfSteps : Type 0
TurnsAreOfSteps =
    (s : State) (l : ℕ × DeckLine) (w : Option FailedWrite)
    → map (λ t. t.turn) (turns_of_line_in s l.1) ≡ (step s l w).turns
