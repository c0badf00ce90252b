-- The trace of a draft: the line of each turn of a section with its source line, the bytes of its operand, and the top
-- of the stack.
use Rattle.std.specs.Prelude.{ℕ, ◌-◌, Bool, cond, ◌&&◌, List, [], ◌∷◌, ◌++◌, length, take, bytes_eq, codes, unwrap_or, Option, Some, None}
use Rattle.mc_text.specs.model_text.specs.Text.{hex_bytes}
use Rattle.mc_text.specs.model_text.specs.Listing.{hex_text}
use Rattle.mc_text.specs.model_text.specs.TurnText.{turn_line}
use Rattle.mc_deck.specs.model_play.specs.Play.{Step}
use Rattle.mc_deck.specs.model_play.specs.Transcript.{plain_text, texts}
use Rattle.desk_draft.specs.Listings.{CodeLine, Source}
use Rattle.desk_draft.specs.Verdicts.{source_part, source_line}
use Rattle.desk_draft.specs.FullTurns.{FullTurn, turns_of_step, stack_of, last_bytes}

-- whether a turn runs a section: its application has the section's AID and its code
abbrev pub is_turn_of : FullTurn → Source → Bool
is_turn_of t s = bytes_eq t.frame.name (unwrap_or (hex_bytes s.sizes.aid) []) && bytes_eq t.code s.code

-- the first section that a turn runs
abbrev pub section_of_turn : List Source → FullTurn → Option Source
section_of_turn [] t = None
section_of_turn (s ∷ ss) t = cond (is_turn_of t s) (Some s) (section_of_turn ss t)

-- the source line of a turn
abbrev pub line_of_turn : List Source → FullTurn → Option CodeLine
line_of_turn ss t = source_line (section_of_turn ss t) t.turn.at

-- bytes in hexadecimal, `-` where there are none
abbrev pub bytes_or_dash : List ℕ → List ℕ
bytes_or_dash [] = codes "-"
bytes_or_dash (b ∷ bs) = hex_text (b ∷ bs)

-- ` ; ` with the bytes of a turn's operand, and at most the last 8 bytes of the stack
abbrev pub state_part : FullTurn → List ℕ
state_part t = codes " ; " ++ bytes_or_dash t.operand ++ codes " " ++ bytes_or_dash (last_bytes 8 (stack_of t.frame))

-- what the line of a turn gets: its source line and its state, nothing where it has no source line
abbrev pub turn_part : FullTurn → Option CodeLine → List ℕ
turn_part t None = []
turn_part t (Some l) = source_part (Some l) ++ state_part t

-- a line with more before its line feed
abbrev pub with_part : List ℕ → List ℕ → List ℕ
with_part l part = take (length l - 1) l ++ part ++ codes "\n"

-- the line of a turn
abbrev pub trace_line : List Source → FullTurn → List ℕ
trace_line ss t = with_part (turn_line t.turn) (turn_part t (line_of_turn ss t))

-- the lines of turns
abbrev pub trace_lines : List Source → List FullTurn → List ℕ
trace_lines ss [] = []
trace_lines ss (t ∷ ts) = trace_line ss t ++ trace_lines ss ts

-- the text of a line that was played, after the lines of its turns
abbrev pub trace_text : List Source → Step → List ℕ
trace_text ss t = trace_lines ss (turns_of_step t) ++ plain_text t

-- the trace of a play of a draft's deck
unfoldable pub trace_of : List Source → List Step → List ℕ
unfolding turn_line turns_of_step
trace_of ss ts = texts (trace_text ss) ts
