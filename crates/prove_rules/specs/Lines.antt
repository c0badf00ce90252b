-- The rules of lines, one after the other.
use Rattle.std.specs.Prelude.{ℕ, Bool, false, cond, not, ◌&&◌, List, [], ◌∷◌, bytes_eq, codes, ok_or, Result, Ok, Err}
use Rattle.mc_words.specs.model_device.specs.Bytes.{lookup}
use Rattle.mc_text.specs.model_text.specs.Text.{◌>>=◌, fields, lines, with_numbers}
use Rattle.model_rule_text.specs.model_play.specs.DeckGrammar.{DeckLine}
use Rattle.model_rule_text.specs.model_play.specs.declared.deck.DeckCause.TheVariants.{BadLine}
use Rattle.model_rule_text.specs.model_play.specs.RuleLines.{is_marked, marked_lines}
use Rattle.prove_facts.specs.model_rules.specs.Rules.{AppRules, no_app_rules}
use Rattle.model_rule_text.specs.Reading as reading
use Rattle.model_rule_text.specs.Reading.{LoadLine, RuleCause, Deck, AppWord, app_line, app_rule, app_rules_from, app_words}
use Rattle.prove_rules.specs.Loads.{loads_in}
use Rattle.prove_rules.specs.declared.reading.Kind.{Kind}
use Rattle.prove_rules.specs.declared.reading.Kind.TheVariants as kind

-- a word of a rule, as the definition has it
abbrev pub kind_value : Kind → AppWord
kind_value kind.App = reading.AppLine
kind_value kind.Allow = reading.AllowLine
kind_value kind.Sum = reading.SumWord
kind_value kind.On = reading.OnWord
kind_value kind.Never = reading.NeverLine
kind_value kind.Always = reading.AlwaysLine
kind_value kind.Move = reading.MoveLine

-- the rules with that of one more line, by its fields after `#@`
abbrev pub rule_of : List (List ℕ × LoadLine) → AppRules → ℕ → List (List ℕ) → Result AppRules RuleCause
rule_of loads a n [] = Err (Deck BadLine)
rule_of loads a n (word ∷ fs) = ok_or (lookup app_words word) (Deck BadLine) >>= λ w. app_rule loads a n w fs

-- whether the first field of a line is `#@` and no more
abbrev pub is_plain_mark : List (List ℕ) → Bool
is_plain_mark [] = false
is_plain_mark (mark ∷ fs) = bytes_eq mark (codes "#@")

-- the rules with that of one more line, if it is one, by whether it is in a section
abbrev pub rules_with : List (List ℕ × LoadLine) → Bool → ℕ × List ℕ → AppRules → Result AppRules RuleCause
rules_with loads inside l a = cond (not inside && is_marked (fields l.1)) (app_line loads a l.0 (fields l.1)) (Ok a)

-- the rules of a text's lines, with what its deck loads
abbrev pub lines_read : List ℕ → List (ℕ × DeckLine) → Result AppRules (ℕ × RuleCause)
lines_read text deck = app_rules_from (loads_in text deck) no_app_rules (marked_lines false (with_numbers 1 (lines text)))
