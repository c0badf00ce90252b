-- `on` lines as the code reads them.
use Rattle.std.specs.Prelude.{◌≡◌, ℕ, Bool, true, false, List, [], ◌∷◌, ◌++◌, map, Option, Some, None, Result, Ok, ⊤}
use Rattle.mc_text.specs.model_text.specs.Text.{◌>>=◌, fields, is_empty}
use Rattle.model_rule_text.specs.model_play.specs.DeckGrammar.{name_field}
use Rattle.model_rule_text.specs.model_events.specs.Matching.{plain}
use Rattle.model_rule_text.specs.model_play.specs.RuleLines.{full_parts, name_and_amount, parts_of, Parts}
use Rattle.prove_facts.specs.model_rules.specs.Rules as rules
use Rattle.prove_facts.specs.model_rules.specs.Rules.{AppRules, OnLine, SumLine, Trigger, AtTurn, AtCommand, AtAnswer, AtSession}
use Rattle.model_rule_text.specs.Reading as reading
use Rattle.model_rule_text.specs.Reading.{AmountForm, AmountRead, RuleCause, action_words, amount_of_read, amount_read, form_of_amount, gives_words, has_no_bracket, of_deck, with_deed, with_event_line}
use Rattle.lab_app_rules.specs.declared.rules.Amount.{Amount}
use Rattle.lab_app_rules.specs.declared.rules.Effect.{Effect}
use Rattle.lab_app_rules.specs.declared.rules.Event.{Event}
use Rattle.lab_app_rules.specs.declared.rules.Event.TheVariants as event
use Rattle.lab_app_rules.specs.declared.rules.On.{On}
use Rattle.lab_app_rules.specs.Rules.{allowance_of, deed_of, IsLine}
use Rattle.prove_rules.specs.declared.load.Found.{Found}
use Rattle.prove_rules.specs.declared.partial.Partial.{Partial}
use Rattle.prove_rules.specs.declared.on.Head.{Head}
use Rattle.prove_rules.specs.declared.parts.Deeds.{Deeds}
use Rattle.prove_rules.specs.declared.parts.Deeds.TheVariants as deeds
use Rattle.lab_app_rules.specs.Sums.{amount_value}
use Rattle.prove_rules.specs.Parts.{action_value, deeds_value, effect_words, event_value, HasParts}
use Rattle.prove_rules.specs.Partials.{place_of}
use Rattle.lab_app_rules.specs.Sums.{move_of, IsSumRule}

-- ---- up to the word

-- the parts of fields before a word of a line, and its word, by whether it is after a turn
abbrev pub HasWord : Bool → List (List ℕ) → Head → Type 0
HasWord of_turn fs h = HasParts (parts_of (effect_words of_turn) fs) h.pattern.items (deeds_value h.deeds) h.after.now

-- the parts of fields with a result, as the definition reads them
abbrev pub result_parts : List (List ℕ) → Result (Parts reading.Deeds) RuleCause
result_parts fs = of_deck (full_parts (parts_of gives_words fs)) >>= λ a. of_deck (full_parts (parts_of action_words a.2))

-- the parts of fields with a result
pub record HasResult (fs : List (List ℕ)) (h : Head) : Type 0 where
  pub mid : List ℕ
  pub first : HasParts (parts_of gives_words fs) h.pattern.items true mid
  pub some : is_empty h.pattern.items ≡ false
  pub second : HasParts (parts_of action_words (fields mid)) h.result.items (deeds_value h.deeds) h.after.now
  pub full : is_empty h.result.items ≡ false

-- an event with its patterns, as the code has them
abbrev pub IsTriggerOf : Trigger → Event → List ℕ → List ℕ → Type 0
IsTriggerOf (AtTurn p) e pattern result = (e ≡ event.Turn) × (pattern ≡ plain p)
IsTriggerOf (AtCommand p) e pattern result = (e ≡ event.Command) × (pattern ≡ plain p)
IsTriggerOf (AtAnswer p q) e pattern result = (e ≡ event.Answer) × (pattern ≡ plain p) × (result ≡ plain q)
IsTriggerOf AtSession e pattern result = e ≡ event.Session

-- an event has such a word: one about a sum is a turn's alone
abbrev pub IsTimely : Trigger → Deeds → Type 0
IsTimely t (deeds.OnAllowance a) = ⊤
IsTimely t (deeds.OnSum adds) = (p : List ℕ) × (t ≡ AtTurn p)

-- the head of a line is read of the fields after its event
pub record IsHead (e : Event) (fs : List (List ℕ)) (h : Head) : Type 0 where
  pub trigger : Trigger
  pub is : IsTriggerOf trigger e h.pattern.items h.result.items
  pub timely : IsTimely trigger h.deeds
  pub leads : (a : AppRules) (n : ℕ) → with_event_line a n (event_value e) fs ≡ with_deed a n trigger (deeds_value h.deeds) (fields h.after.now)

-- ---- after it

-- fields are the name and the amount of an effect on an allowance
pub record IsAllowanceEffect (p : Partial) (fs : List (List ℕ)) (act : rules.Action) (effect : Effect) (at : ℕ) : Type 0 where
  pub name : List ℕ
  pub amount : ℕ
  pub named : name_and_amount fs ≡ Ok (name, amount)
  pub deed : deed_of effect ≡ Some (act, amount)
  pub place : place_of (map allowance_of p.allowances.items) name ≡ Some at
  pub found : Found
  pub loaded : p.load ≡ Some found

-- fields are the name and the amount of an effect on a sum
pub record IsSumEffect (p : Partial) (fs : List (List ℕ)) (adds : Bool) (effect : Effect) (at : ℕ) : Type 0 where
  pub name : List ℕ
  pub text : List ℕ
  pub parts : fs ≡ name ∷ text ∷ []
  pub form : AmountForm
  pub formed : form_of_amount (has_no_bracket text) text ≡ Ok form
  pub named : name_field name ≡ Ok name
  pub read : AmountRead
  pub reads : amount_read form ≡ Ok read
  pub value : Amount
  pub is : amount_of_read read ≡ Ok (amount_value value)
  pub deed : deed_of effect ≡ None
  pub move : move_of effect ≡ Some (adds, value)
  pub place : place_of (map allowance_of p.sums.items) name ≡ Some at
  pub found : Found
  pub loaded : p.load ≡ Some found

-- fields are the name and the amount of an effect
abbrev pub IsEffect : Partial → List (List ℕ) → Deeds → Effect → ℕ → Type 0
IsEffect p fs (deeds.OnAllowance a) effect place = IsAllowanceEffect p fs (action_value a) effect place
IsEffect p fs (deeds.OnSum adds) effect place = IsSumEffect p fs adds effect place

-- ---- a line

-- rules with one more line, about an allowance or about a sum
abbrev pub MoreLines : Option (rules.Action × ℕ) → List (List ℕ) → List (List ℕ) → AppRules → Result AppRules RuleCause → On → Type 0
MoreLines None names sums a r on = (m : SumLine) × (k : Bool × Amount) × (r ≡ Ok (record a { moves = a.moves ++ m ∷ [] })) × (move_of on.effect ≡ Some k) × IsSumRule sums k m on
MoreLines (Some deed) names sums a r on = (l : OnLine) × (r ≡ Ok (record a { ons = a.ons ++ l ∷ [] })) × IsLine names deed l on

-- rules with this `on` line
abbrev pub IsOnRead : List (List ℕ) → List (List ℕ) → AppRules → Result AppRules RuleCause → On → Type 0
IsOnRead names sums a r on = MoreLines (deed_of on.effect) names sums a r on
