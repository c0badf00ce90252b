-- The rules of a deck: its comments that begin with `#@`. They name the moves of a terminal, the allowances of an
-- application, and what a move does to an allowance.
use Rattle.std.specs.Prelude.{ℕ, Bool, true, false, not, cond, ◌&&◌, List, [], ◌∷◌, ◌++◌, bytes_eq, codes, is_none, is_some, ok_or, Option, Some, None, Result, Ok, Err}
use Rattle.model_play.specs.model_device.specs.Bytes.{lookup}
use Rattle.model_play.specs.model_text.specs.Text.{◌>>=◌, ok_as, err_as, only_if, is_blank, first_cut, trim, trim_front, lines, with_numbers, fields}
use Rattle.model_play.specs.declared.deck.DeckCause.{DeckCause}
use Rattle.model_play.specs.declared.deck.DeckCause.TheVariants.{BadLine, NameTwice, UnknownName}
use Rattle.model_play.specs.DeckGrammar.{DeckLine, Stated, Says, Opens, Word, PowerWord, SelectWord, DeleteWord, ApduWord, statement_of, deck_read}
use Rattle.model_play.specs.RuleLines.{full_parts, line_if, marked_lines, name_and_amount, parts_of}
use Rattle.model_play.specs.model_text.specs.Text.{begins_with, stays_inside}

-- ---- rules

-- a move of a terminal: the number of its line, its statement as it is written there, and the line of a deck that it is
pub record Move : Type 0 where
  pub number : ℕ
  pub text : List ℕ
  pub line : DeckLine

-- what of a move a pattern is compared with: its result, or each of its executed instructions
pub data Occasion : Type 0 where
  AtResult : Occasion
  AtTurn : Occasion

-- what happens to an allowance
pub data Effect : Type 0 where
  Allows : Effect
  Spends : Effect

-- an `on` line: its number, the pattern of its moves, the pattern of its occasions, and what then happens to which
-- allowance
pub record OnRule : Type 0 where
  pub number : ℕ
  pub move : List ℕ
  pub occasion : Occasion
  pub pattern : List ℕ
  pub effect : Effect
  pub name : List ℕ
  pub amount : ℕ

-- the rules of a deck, each kind in the order of its lines; an allowance is a name and what is left of it
pub record Rules : Type 0 where
  pub moves : List Move
  pub allowances : List (List ℕ × ℕ)
  pub ons : List OnRule

-- a deck without rules
abbrev pub no_rules : Rules
no_rules = record { moves = []; allowances = []; ons = [] }

-- ---- which lines they are

-- the lines outside of sections whose first field is `#@`; the first line of these is in a section or not
unfoldable pub rule_lines : Bool → List (ℕ × List ℕ) → List (ℕ × List ℕ)
rule_lines inside [] = []
rule_lines inside (l ∷ ls) =
    line_if (not inside && begins_with (codes "#@") (fields l.1)) l (rule_lines (stays_inside inside (fields l.1)) ls)

-- ---- moves

-- the text after the first field of a line, without the blanks around it
abbrev pub after_field : Option (List ℕ) → List ℕ
after_field None = []
after_field (Some t) = trim t

-- a line without its first field
abbrev pub without_field : List ℕ → List ℕ
without_field l = after_field (first_cut is_blank (trim_front l)).1

-- the statements that are moves, by their words
abbrev pub move_words : List (List ℕ × Word)
move_words = (codes "power", PowerWord) ∷ (codes "select", SelectWord) ∷ (codes "delete", DeleteWord) ∷ (codes "apdu", ApduWord) ∷ []

-- the line of a deck that a statement is
abbrev pub line_stated : Stated → Result DeckLine DeckCause
line_stated (Says l c) = Ok l
line_stated (Opens s c) = Err BadLine

-- the line of a deck that the fields of a move are, read as after a `power` line
unfoldable pub move_line : ℕ → List (List ℕ) → Result DeckLine DeckCause
unfolding statement_of
move_line n [] = Err BadLine
move_line n (word ∷ rest) = do
  w ← ok_or (lookup move_words word) BadLine
  s ← statement_of (record { units = []; powered = true }) n w rest
  line_stated s

-- ---- parts of a line

-- the words before the pattern of an `on` line's occasions
abbrev pub occasion_words : List (List ℕ × Occasion)
occasion_words = (codes "gives", AtResult) ∷ (codes "turns", AtTurn) ∷ []

-- the words after it
abbrev pub effect_words : List (List ℕ × Effect)
effect_words = (codes "allow", Allows) ∷ (codes "spend", Spends) ∷ []

-- ---- line by line

-- the words of rules
pub data RuleWord : Type 0 where
  MoveWord : RuleWord
  AllowWord : RuleWord
  OnWord : RuleWord

-- the words of rules
abbrev pub rule_words : List (List ℕ × RuleWord)
rule_words = (codes "move", MoveWord) ∷ (codes "allow", AllowWord) ∷ (codes "on", OnWord) ∷ []

-- the rules with those of one more line, by its word, its statement's text and its fields after the word
unfoldable pub with_rule : Rules → ℕ → List ℕ → RuleWord → List (List ℕ) → Result Rules DeckCause
unfolding move_line
with_rule r n text MoveWord fields =
    ok_as (λ l. record r { moves = r.moves ++ record { number = n; text = text; line = l } ∷ [] }) (move_line n fields)
with_rule r n text AllowWord fields = do
  a ← name_and_amount fields
  only_if (is_none (lookup r.allowances a.0)) NameTwice (record r { allowances = r.allowances ++ a ∷ [] })
with_rule r n text OnWord fields = do
  m ← full_parts (parts_of occasion_words fields)
  o ← full_parts (parts_of effect_words m.2)
  a ← name_and_amount o.2
  only_if (is_some (lookup r.allowances a.0)) UnknownName (record r {
    ons = r.ons ++ record { number = n; move = m.0; occasion = m.1; pattern = o.0; effect = o.1; name = a.0; amount = a.1 } ∷ [];
  })

-- the word of a rule, by the first field of its line, which is `#@` and no more, and the field after it
abbrev pub rule_word : List ℕ → List ℕ → Result RuleWord DeckCause
rule_word mark word = cond (bytes_eq mark (codes "#@")) (ok_or (lookup rule_words word) BadLine) (Err BadLine)

-- the rules with those of one more line, by its fields
unfoldable pub with_line : Rules → ℕ × List ℕ → List (List ℕ) → Result Rules DeckCause
unfolding with_rule
with_line r l (mark ∷ word ∷ rest) = rule_word mark word >>= λ w. with_rule r l.0 (without_field (without_field l.1)) w rest
with_line r l other = Err BadLine

-- the rules of lines, or the first refusal
unfoldable pub rules_from : Rules → List (ℕ × List ℕ) → Result Rules (ℕ × DeckCause)
unfolding with_line
rules_from r [] = Ok r
rules_from r (l ∷ ls) = err_as (λ e. (l.0, e)) (with_line r l (fields l.1)) >>= λ s. rules_from s ls

-- the rules of a deck's text
unfoldable pub rules_read : List ℕ → Result Rules (ℕ × DeckCause)
unfolding marked_lines rules_from
rules_read text = rules_from no_rules (marked_lines false (with_numbers 1 (lines text)))

-- ---- a deck with its rules

-- the lines of a deck, and its rules
pub record Exploration : Type 0 where
  pub lines : List (ℕ × DeckLine)
  pub rules : Rules

-- why a deck is not explored: a line that is refused, of the deck or of its rules; no move; or no `on` line
pub data ExplorationFault : Type 0 where
  LineFault : (line : ℕ) (cause : DeckCause) → ExplorationFault
  NoMove : ExplorationFault
  NoRule : ExplorationFault

-- the refusal of a line
abbrev pub line_fault : ℕ × DeckCause → ExplorationFault
line_fault e = LineFault e.0 e.1

-- whether there is one of some
abbrev pub is_some_of : {A : Type 0} → List A → Bool
is_some_of [] = false
is_some_of (x ∷ xs) = true

-- rules with a move and an `on` line: without them an exploration tests nothing
abbrev pub tested_rules : Rules → Result Rules ExplorationFault
tested_rules r = only_if (is_some_of r.moves) NoMove r >>= λ r. only_if (is_some_of r.ons) NoRule r

-- the lines of a deck and its rules, or the first refusal; those of the deck come first, and then those of lines
unfoldable pub exploration_read : List ℕ → Result Exploration ExplorationFault
unfolding deck_read rules_read
exploration_read text = do
  ls ← err_as line_fault (deck_read text)
  r ← err_as line_fault (rules_read text)
  ok_as (λ r. record { lines = ls; rules = r }) (tested_rules r)
