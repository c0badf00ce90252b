-- What is read of the rules of a deck, for rows that compute it.
use Rattle.std.specs.Prelude.{ℕ, List, ◌++◌, codes, Result, Ok, Err}
use Rattle.prove_facts.specs.model_rules.specs.Rules.{AppRules}
use Rattle.model_rule_text.specs.Reading.{RuleCause, app_rules_read}
use Rattle.model_rule_text.specs.Decks.{with_rules}

-- rules are read, or a line is refused
pub data Answer : Type 0 where
  Read : Answer
  Refused : (line : ℕ) (cause : RuleCause) → Answer

-- what is answered of rules that were read, or refused
abbrev pub answer_of : Result AppRules (ℕ × RuleCause) → Answer
answer_of (Ok r) = Read
answer_of (Err e) = Refused e.0 e.1

-- what a deck answers whose rules end with some lines
unfoldable pub answer : List ℕ → Answer
unfolding app_rules_read
answer rules = answer_of (app_rules_read (with_rules rules))

-- after an application, a sum and an allowance
abbrev pub named : List ℕ → Answer
named lines = answer (codes "#@ app a\n#@ sum s 1\n#@ allow k 1\n" ++ lines)

-- after a sum and an allowance
abbrev pub unnamed : List ℕ → Answer
unnamed lines = answer (codes "#@ sum s 1\n#@ allow k 1\n" ++ lines)
