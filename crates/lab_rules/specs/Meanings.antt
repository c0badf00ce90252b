-- The rules of a deck as the code has them, and the rules that they are.
use Rattle.std.specs.Prelude.{◌≡◌, ℕ, suc, Bool, true, not, ◌&&◌, cond, List, [], ◌∷◌, map, bytes_eq, codes, is_some, option_map, ok_or, Option, Some, None, Result, Ok, Err, ⊤}
use Rattle.model_device.specs.Bytes.{lookup}
use Rattle.mc_text.specs.model_text.specs.Text.{◌>>=◌, only_if, fields}
use Rattle.law_explore.specs.model_play.specs.declared.deck.DeckCause.{DeckCause}
use Rattle.law_explore.specs.model_play.specs.declared.deck.DeckCause.TheVariants.{BadLine, UnknownName}
use Rattle.mc_deck.specs.declared.refusal.DeckRefusal.{DeckRefusal}
use Rattle.mc_deck.specs.declared.refusal.DeckRefusal.TheVariants as refusal
use Rattle.mc_deck.specs.declared.refusal.Fault.{Fault}
use Rattle.mc_deck.specs.declared.refusal.Fault.TheVariants as fault
use Rattle.law_explore.specs.model_events.specs.Matching.{plain}
use Rattle.law_explore.specs.Rules as model
use Rattle.lab_rules.specs.declared.refusal.ExplorationRefusal.{ExplorationRefusal}
use Rattle.lab_rules.specs.declared.refusal.ExplorationRefusal.TheVariants as explored
use Rattle.law_explore.specs.Rules.{ExplorationFault, LineFault, NoMove, NoRule, RuleWord, effect_words, occasion_words, rule_words, with_line, with_rule, without_field}
use Rattle.law_explore.specs.model_play.specs.RuleLines.{Parts, is_marked, full_parts, name_and_amount, parts_of}
use Rattle.law_explore.specs.model_text.specs.Text.{begins_with}
use Rattle.lab_rules.specs.declared.rules.Move.{Move}
use Rattle.lab_rules.specs.declared.rules.Allowance.{Allowance}
use Rattle.lab_rules.specs.declared.rules.Occasion.{Occasion}
use Rattle.lab_rules.specs.declared.rules.Occasion.TheVariants as occasion
use Rattle.lab_rules.specs.declared.rules.Effect.{Effect}
use Rattle.lab_rules.specs.declared.rules.Effect.TheVariants as effect
use Rattle.lab_rules.specs.declared.rules.OnRule.{OnRule}
use Rattle.lab_rules.specs.declared.rules.Rules.{Rules}
use Rattle.lab_rules.specs.declared.reading.Kind.{Kind}
use Rattle.lab_rules.specs.declared.reading.Kind.TheVariants as kind
use Rattle.lab_rules.specs.declared.reading.Exploration.{Exploration}
use Rattle.lab_rules.specs.Fields.{IsOneLine}
use Rattle.lab_rules.specs.Moves.{move_deck}

-- ---- refusals

-- the refusal of a line with this number
abbrev pub refusal_at : ℕ → Fault → DeckRefusal
refusal_at n (fault.Cause c) = refusal.At n c
refusal_at n fault.NoMemory = refusal.NoMemory

-- ---- lists

-- two lists whose values are related one by one
abbrev pub AlikeLists : {A B : Type 0} → (A → B → Type 0) → List A → List B → Type 0
AlikeLists R [] [] = ⊤
AlikeLists R (x ∷ xs) (y ∷ ys) = R x y × AlikeLists R xs ys
AlikeLists R [] (y ∷ ys) = ⊥
AlikeLists R (x ∷ xs) [] = ⊥

-- ---- moves

-- a move is one of the definition
pub record IsMove (m : Move) (d : model.Move) : Type 0 where
  pub text : m.text.now ≡ d.text
  pub deck : m.deck ≡ move_deck d.line

-- ---- allowances

-- an allowance, as the definition has it
abbrev pub allowance_value : Allowance → List ℕ × ℕ
allowance_value a = (a.name.now, a.amount)

-- allowances, as the definition has them
abbrev pub allowance_values : List Allowance → List (List ℕ × ℕ)
allowance_values held = map allowance_value held

-- the place of a name among allowances
abbrev pub place_of : List (List ℕ × ℕ) → List ℕ → Option ℕ
place_of [] name = None
place_of (a ∷ held) name = cond (bytes_eq a.0 name) (Some 0) (option_map suc (place_of held name))

-- each name is there once
abbrev pub AreDistinct : List (List ℕ × ℕ) → Type 0
AreDistinct [] = ⊤
AreDistinct (a ∷ held) = (lookup held a.0 ≡ None) × AreDistinct held

-- ---- `on` lines

-- an occasion, as the definition has it
abbrev pub occasion_value : Occasion → model.Occasion
occasion_value occasion.Result = model.AtResult
occasion_value occasion.Turn = model.AtTurn

-- an effect, as the definition has it
abbrev pub effect_value : Effect → model.Effect
effect_value effect.Allow = model.Allows
effect_value effect.Spend = model.Spends

-- an `on` line is one of the definition, among these allowances
pub record IsOn (held : List (List ℕ × ℕ)) (o : OnRule) (r : model.OnRule) : Type 0 where
  pub line : o.line ≡ r.number
  pub moves : o.moves.items ≡ plain r.move
  pub occasion : occasion_value o.occasion ≡ r.occasion
  pub pattern : o.pattern.items ≡ plain r.pattern
  pub effect : effect_value o.effect ≡ r.effect
  pub place : place_of held r.name ≡ Some o.allowance
  pub amount : o.amount ≡ r.amount

-- the `on` line of the definition, by its number, the allowances before it, its first parts, its second ones and its name
-- with the amount
abbrev pub named_on : ℕ → List (List ℕ × ℕ) → Parts model.Occasion → Parts model.Effect → Result (List ℕ × ℕ) DeckCause → Result model.OnRule DeckCause
named_on n held m o y =
    y >>= λ a. only_if (is_some (lookup held a.0)) UnknownName (record { number = n; move = m.0; occasion = m.1; pattern = o.0; effect = o.1; name = a.0; amount = a.1 })

-- the same by its first and second parts
abbrev pub effected_on : ℕ → List (List ℕ × ℕ) → Parts model.Occasion → Result (Parts model.Effect) DeckCause → Result model.OnRule DeckCause
effected_on n held m x = x >>= λ o. named_on n held m o (name_and_amount o.2)

-- the same by its first parts
abbrev pub on_from : ℕ → List (List ℕ × ℕ) → Result (Parts model.Occasion) DeckCause → Result model.OnRule DeckCause
on_from n held x = x >>= λ m. effected_on n held m (full_parts (parts_of effect_words m.2))

-- an `on` line of the definition, by its number, the allowances before it and the fields after its word
abbrev pub on_of : ℕ → List (List ℕ × ℕ) → List (List ℕ) → Result model.OnRule DeckCause
on_of n held fs = on_from n held (full_parts (parts_of occasion_words fs))

-- an `on` line that was read
abbrev pub IsOnRead : List (List ℕ × ℕ) → OnRule → Result model.OnRule DeckCause → Type 0
IsOnRead held o (Ok r) = IsOn held o r
IsOnRead held o (Err e) = ⊥

-- ---- rules

-- moves, allowances and `on` lines are those of rules of the definition, each allowance with a name of its own
pub record AreRuleLists (ms : List Move) (held : List Allowance) (os : List OnRule) (r : model.Rules) : Type 0 where
  pub moves : AlikeLists IsMove ms r.moves
  pub allowances : allowance_values held ≡ r.allowances
  pub distinct : AreDistinct r.allowances
  pub ons : AlikeLists (IsOn r.allowances) os r.ons

-- moves, allowances and `on` lines that were read
abbrev pub AreListsRead : {E : Type 0} → List Move → List Allowance → List OnRule → Result model.Rules E → Type 0
AreListsRead ms held os (Ok r) = AreRuleLists ms held os r
AreListsRead ms held os (Err e) = ⊥

-- rules are those of the definition
abbrev pub AreRules : Rules → model.Rules → Type 0
AreRules c r = AreRuleLists c.moves.items c.allowances.items c.ons.items r

-- rules that were read
abbrev pub AreRulesRead : {E : Type 0} → Rules → Result model.Rules E → Type 0
AreRulesRead c r = AreListsRead c.moves.items c.allowances.items c.ons.items r

-- the rules with that of one more line, by its text after `#@` and its fields
abbrev pub rule_of : model.Rules → ℕ → List ℕ → List (List ℕ) → Result model.Rules DeckCause
rule_of r n text [] = Err BadLine
rule_of r n text (word ∷ rest) = ok_or (lookup rule_words word) BadLine >>= λ w. with_rule r n (without_field text) w rest

-- the rules with that of one more line, if it is one, by whether it is in a section
abbrev pub rules_with : Bool → ℕ × List ℕ → model.Rules → Result model.Rules DeckCause
rules_with inside l r = cond (not inside && is_marked (fields l.1)) (with_line r l (fields l.1)) (Ok r)

-- whether the first field of a line begins with `#@`, by whether the line is in a section
abbrev pub is_rule : Bool → List (List ℕ) → Bool
is_rule inside fs = not inside && is_marked fs

-- whether the first of some fields is `#@`
abbrev pub is_plain_mark : List (List ℕ) → Bool
is_plain_mark fs = begins_with (codes "#@") fs

-- the text of a rule: its line without its first field, and the fields of it
pub record IsRuleText (inside : Bool) (line text : List ℕ) : Type 0 where
  pub rule : is_rule inside (fields line) ≡ true
  pub left : text ≡ without_field line
  pub marked : fields line ≡ codes "#@" ∷ fields text
  pub one : IsOneLine text

-- a word of a rule, as the definition has it
abbrev pub kind_value : Kind → RuleWord
kind_value kind.Move = model.MoveWord
kind_value kind.Allow = model.AllowWord
kind_value kind.On = model.OnWord

-- the refusal of a line, of the deck or of its rules
abbrev pub line_refusal : DeckRefusal → ExplorationRefusal
line_refusal (refusal.At n c) = explored.Line n c
line_refusal refusal.NoMemory = explored.NoMemory

-- the refusal of a deck with its rules is the one of the definition, or out of memory
abbrev pub RefusesExploration : {A : Type 0} → Result A ExplorationFault → ExplorationRefusal → Type 0
RefusesExploration r (explored.Line n c) = r ≡ Err (LineFault n c)
RefusesExploration r explored.NoMove = r ≡ Err NoMove
RefusesExploration r explored.NoRule = r ≡ Err NoRule
RefusesExploration r explored.NoMemory = ⊤

-- a deck with its rules that was read
abbrev pub IsExplorationRead : {E : Type 0} → Exploration → Result model.Exploration E → Type 0
IsExplorationRead x (Ok d) = (x.deck ≡ d.lines) × AreRules x.rules d.rules
IsExplorationRead x (Err e) = ⊥
