-- The lines of a deck that the frames of a session represent.
use Rattle.std.specs.Prelude.{ℕ, ◌+◌, Bool, false, List, [], ◌∷◌, ◌++◌, Option, Some, None}
use Rattle.mc_deck.specs.model_play.specs.DeckGrammar.{DeckLine}
use Rattle.mc_deck.specs.model_play.specs.DeckGrammar as line
use Rattle.mc_reader.specs.Meanings.{Meaning, PowerOn, Orders, ToCard, meaning, power_after}

-- the line that a frame represents, if it represents one
abbrev pub line_in : Meaning → Option DeckLine
line_in PowerOn = Some line.Power
line_in (Orders l) = Some l
line_in (ToCard f) = Some (line.Sent (line.Apdu f))
line_in _ = None

-- a line that may be missing, with the number after n
abbrev pub line_with_number : ℕ → Option DeckLine → List (ℕ × DeckLine)
line_with_number n None = []
line_with_number n (Some l) = (n + 1, l) ∷ []

-- the number of the last line after it
abbrev pub number_after : ℕ → Option DeckLine → ℕ
number_after n None = n
number_after n (Some l) = n + 1

-- the lines that frames represent, with numbers after n, by whether the card has power before them
abbrev pub lines_of : ℕ → Bool → List (List ℕ) → List (ℕ × DeckLine)
lines_of n powered [] = []
lines_of n powered (f ∷ fs) =
    let m = meaning powered f in
    line_with_number n (line_in m) ++ lines_of (number_after n (line_in m)) (power_after powered m) fs

-- the number of the last of some lines, and 0 if there is none
abbrev pub last_number : List (ℕ × DeckLine) → ℕ
last_number [] = 0
last_number (l ∷ []) = l.0
last_number (l ∷ k ∷ ls) = last_number (k ∷ ls)

-- the lines of a session: those of its deck, and those of its frames; the card has no power before the frames
abbrev pub session_lines : List (ℕ × DeckLine) → List (List ℕ) → List (ℕ × DeckLine)
session_lines deck fs = deck ++ lines_of (last_number deck) false fs
