-- The lines that refuse an input.
use Rattle.std.specs.Prelude.{ℕ, List, ◌++◌, codes, decimal}
use Rattle.mc_deck.specs.model_play.specs.Words.{deck_word}
use Rattle.mc_deck.specs.model_play.specs.declared.deck.DeckCause.{DeckCause}

-- the line of a refusal: the kind, `line` or `place`, its number, and the cause
abbrev pub refusal_line : List ℕ → ℕ → List ℕ → List ℕ
refusal_line kind n cause = kind ++ codes " " ++ decimal n ++ codes " " ++ cause ++ codes "\n"

-- the refusal of a line of the input
abbrev pub at_line : ℕ → List ℕ → List ℕ
at_line n cause = refusal_line (codes "line") n cause

-- the refusal of a place of listed code
abbrev pub at_place : ℕ → List ℕ → List ℕ
at_place n cause = refusal_line (codes "place") n cause

-- the refusal of an input that is too long, or whose code is
abbrev pub too_long : List ℕ
too_long = codes "line 0 TooLong\n"

-- the refusal of a line of a deck
abbrev pub deck_line : ℕ × DeckCause → List ℕ
deck_line (n, c) = at_line n (deck_word c)
