-- The moves of a deck, read alone.
use Rattle.std.specs.Prelude.{ℕ, Bool, false, cond, not, ◌&&◌, List, [], ◌∷◌, ◌++◌, bytes_eq, codes, Result, Ok, Err}
use Rattle.law_histories.specs.model_text.specs.Text.{◌>>=◌, ok_as, err_as, fields, lines, with_numbers}
use Rattle.law_histories.specs.model_play.specs.declared.deck.DeckCause.{DeckCause}
use Rattle.law_histories.specs.law_explore.specs.Rules as model
use Rattle.law_histories.specs.model_play.specs.RuleLines.{is_marked, marked_lines}
use Rattle.law_histories.specs.law_explore.specs.Rules.{move_line, without_field}
use Rattle.lab_rules.specs.declared.rules.Move.{Move}
use Rattle.lab_rules.specs.declared.rules.Rules.{Rules}
use Rattle.lab_rules.specs.Meanings.{AlikeLists, AreRules, IsMove}

-- ---- their definition

-- the moves with that of a line, by its fields after its word
abbrev pub with_move : List model.Move → ℕ × List ℕ → List (List ℕ) → Result (List model.Move) DeckCause
with_move ms l rest = ok_as (λ d. ms ++ record { number = l.0; text = without_field (without_field l.1); line = d } ∷ []) (move_line l.0 rest)

-- the moves with that of a line, if it is one, by its fields
abbrev pub with_move_of : List model.Move → ℕ × List ℕ → List (List ℕ) → Result (List model.Move) DeckCause
with_move_of ms l (mark ∷ word ∷ rest) = cond (bytes_eq mark (codes "#@") && bytes_eq word (codes "move")) (with_move ms l rest) (Ok ms)
with_move_of ms l other = Ok ms

-- the same of a line of a deck, by whether it is in a section
abbrev pub moves_with : Bool → ℕ × List ℕ → List model.Move → Result (List model.Move) DeckCause
moves_with inside l ms = cond (not inside && is_marked (fields l.1)) (with_move_of ms l (fields l.1)) (Ok ms)

-- the moves of lines, or the first refusal
unfoldable pub moves_from : List model.Move → List (ℕ × List ℕ) → Result (List model.Move) (ℕ × DeckCause)
unfolding move_line
moves_from ms [] = Ok ms
moves_from ms (l ∷ ls) = err_as (λ e. (l.0, e)) (with_move_of ms l (fields l.1)) >>= λ ns. moves_from ns ls

-- the moves of a deck's text
unfoldable pub moves_read : List ℕ → Result (List model.Move) (ℕ × DeckCause)
unfolding marked_lines moves_from
moves_read text = moves_from [] (marked_lines false (with_numbers 1 (lines text)))

-- ---- as the code has them

-- rules that are moves alone
abbrev pub moves_only : List model.Move → model.Rules
moves_only ms = record { moves = ms; allowances = []; ons = [] }

-- rules are moves alone that were read
abbrev pub AreOnlyMoves : {E : Type 0} → Rules → Result (List model.Move) E → Type 0
AreOnlyMoves c (Ok ms) = AreRules c (moves_only ms)
AreOnlyMoves c (Err e) = ⊥

-- moves that were read
abbrev pub AreMovesRead : {E : Type 0} → List Move → Result (List model.Move) E → Type 0
AreMovesRead ms (Ok ns) = AlikeLists IsMove ms ns
AreMovesRead ms (Err e) = ⊥
