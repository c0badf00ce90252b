-- The `load` lines of a deck as the code finds them.
use Rattle.std.specs.Prelude.{◌≡◌, ℕ, Bool, false, cond, nat_le, nat_lt, ◌==◌, ◌&&◌, List, [], ◌∷◌, bytes_eq, length, Option, Some, None}
use Rattle.mc_words.specs.model_device.specs.Bytes.{AreBytes}
use Rattle.mc_text.specs.model_text.specs.Text.{lines, with_numbers}
use Rattle.model_rule_text.specs.model_play.specs.DeckGrammar.{DeckLine}
use Rattle.model_rule_text.specs.model_play.specs.DeckGrammar as line
use Rattle.model_rule_text.specs.Reading.{LoadLine, load_names, loads_of}
use Rattle.mc_deck.specs.Lines.{GoodUnit}
use Rattle.lab_app_rules.specs.declared.rules.Load.{Load}
use Rattle.prove_rules.specs.declared.load.Found.{Found}

-- the `load` lines of a deck's text, each under the name of its unit
abbrev pub loads_in : List ℕ → List (ℕ × DeckLine) → List (List ℕ × LoadLine)
loads_in text deck = loads_of (load_names false (with_numbers 1 (lines text))) deck

-- whether the second of some fields is this name
abbrev pub is_second : List (List ℕ) → List ℕ → Bool
is_second [] name = false
is_second (word ∷ []) name = false
is_second (word ∷ second ∷ rest) name = bytes_eq second name

-- the number of the first line whose second field is this name
abbrev pub first_named : List (ℕ × List (List ℕ)) → List ℕ → Option ℕ
first_named [] name = None
first_named (l ∷ ls) name = cond (is_second l.1 name) (Some l.0) (first_named ls name)

-- a line of a deck, if it is a `load` line
abbrev pub loaded : DeckLine → Option LoadLine
loaded (line.Sent (line.Load u fixed session)) = Some (record { unit = u; fixed = fixed; session = session })
loaded l = None

-- the same of a line with its number, if there is one
abbrev pub loaded_line : Option (ℕ × DeckLine) → Option LoadLine
loaded_line None = None
loaded_line (Some l) = loaded l.1

-- the `load` line of this number; none if a line of a greater one is before it
abbrev pub loaded_at : ℕ → List (ℕ × DeckLine) → Option LoadLine
loaded_at n [] = None
loaded_at n (l ∷ ls) = cond (l.0 == n) (loaded l.1) (cond (nat_lt n l.0) None (loaded_at n ls))

-- what the code has of a `load` line
pub record IsLoad (l : LoadLine) (found : Found) : Type 0 where
  pub aid : l.unit.aid ≡ found.aid
  pub code : l.unit.code ≡ found.load.code.now
  pub bytes : AreBytes l.unit.code
  pub front : l.unit.init ≡ found.load.data.now
  pub init : AreBytes l.unit.init
  pub fixed : l.fixed ≡ found.load.fixed
  pub session : l.session ≡ found.load.session
  pub good : GoodUnit l.unit

-- it is that of a line, if this is a `load` line
abbrev pub IsLoadOf : Option LoadLine → Found → Type 0
IsLoadOf None found = ⊥
IsLoadOf (Some l) found = IsLoad l found

-- whether its sizes are those that a card accepts
abbrev pub is_accepted : Load → Bool
is_accepted load = nat_le load.fixed 4096 && nat_le (length load.data.now) load.fixed && nat_le load.session 256
