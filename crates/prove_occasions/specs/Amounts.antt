-- What events do to the amounts of the allowances, as the code computes it on its own lines.
use Rattle.std.specs.Prelude.{◌≡◌, ℕ, ◌-◌, Bool, true, false, cond, ◌&&◌, nat_le, List, [], ◌∷◌, length, drop, slice_get, slice_set, slice_index_or, Option, Some, None, option_and_then, Result, Ok}
use Rattle.lab_app_rules.specs.model_events.specs.Matching.{fits}
use Rattle.prove_facts.specs.model_rules.specs.Rules.{OnLine}
use Rattle.prove_facts.specs.model_rules.specs.Keeping.{Amounts, Break}
use Rattle.lab_app_rules.specs.declared.rules.Event.{Event}
use Rattle.lab_app_rules.specs.declared.rules.Event.TheVariants as event
use Rattle.lab_app_rules.specs.declared.rules.Effect.{Effect}
use Rattle.lab_app_rules.specs.declared.rules.Effect.TheVariants as effect
use Rattle.lab_app_rules.specs.declared.rules.On.{On}
use Rattle.lab_app_rules.specs.Rules.{AreLines, AreDistinct}
use Rattle.prove_keys.specs.Keys.{amounts_of}
use Rattle.prove_occasions.specs.declared.amounts.Occasion.{Occasion}
use Rattle.prove_occasions.specs.declared.amounts.Occasion.TheVariants as occasion

-- ---- the definition's side

-- The lines are those of the definition, about allowances with these names, each of which is there once and has an
-- amount.
pub record AreLinesOver (names : List (List ℕ)) (ls : List OnLine) (ons : List On) (amounts : List ℕ) : Type 0 where
  pub lines : AreLines names ls ons
  pub distinct : AreDistinct names
  pub size : length amounts ≡ length names

-- amounts are those that the definition leaves, one for each name
abbrev pub AreAfter : List (List ℕ) → Result Amounts Break → List ℕ → Type 0
AreAfter names after b = (after ≡ Ok (amounts_of names b)) × (length b ≡ length names)

-- ---- lines

-- whether an effect is one on an allowance, and not on a sum
abbrev pub is_of_allowance : Effect → Bool
is_of_allowance (effect.Allow k) = true
is_of_allowance (effect.Spend k) = true
is_of_allowance (effect.Need k) = true
is_of_allowance (effect.Add amount) = false
is_of_allowance (effect.Take amount) = false

-- whether an event is an instruction
abbrev pub is_turn : Event → Bool
is_turn event.Turn = true
is_turn event.Command = false
is_turn event.Answer = false
is_turn event.Session = false

-- whether an event is a command
abbrev pub is_command : Event → Bool
is_command event.Turn = false
is_command event.Command = true
is_command event.Answer = false
is_command event.Session = false

-- whether an event is an answer
abbrev pub is_answer : Event → Bool
is_answer event.Turn = false
is_answer event.Command = false
is_answer event.Answer = true
is_answer event.Session = false

-- whether an event is the begin or the end of a session
abbrev pub is_session : Event → Bool
is_session event.Turn = false
is_session event.Command = false
is_session event.Answer = false
is_session event.Session = true

-- whether a line is about an occasion
abbrev pub is_about : Occasion → On → Bool
is_about (occasion.Turn text) on = is_turn on.event && fits on.pattern.items text.now
is_about occasion.Session on = is_session on.event

-- whether a line does something to an allowance on an occasion
abbrev pub is_due : Occasion → On → Bool
is_due o on = is_of_allowance on.effect && is_about o on

-- ---- amounts

-- an amount after an effect, or none if a rule is broken
abbrev pub amount_after : Effect → ℕ → Option ℕ
amount_after (effect.Allow k) amount = Some k
amount_after (effect.Spend k) amount = cond (nat_le k amount) (Some (amount - k)) None
amount_after (effect.Need k) amount = cond (nat_le k amount) (Some amount) None
amount_after (effect.Add by) amount = Some amount
amount_after (effect.Take by) amount = Some amount

-- the amounts with another one at a place, if there is one
abbrev pub with_amount_at : ℕ → List ℕ → Option ℕ → Option (List ℕ)
with_amount_at place amounts None = None
with_amount_at place amounts (Some k) = Some (slice_set amounts place k)

-- the amounts after a line, by the amount of its allowance
abbrev pub amounts_by : Option ℕ → On → List ℕ → Option (List ℕ)
amounts_by None on amounts = None
amounts_by (Some amount) on amounts = with_amount_at on.name amounts (amount_after on.effect amount)

-- the amounts after a line, if it applies
abbrev pub amounts_after : Bool → On → List ℕ → Option (List ℕ)
amounts_after false on amounts = Some amounts
amounts_after true on amounts = amounts_by (slice_get amounts on.name) on amounts

-- the amounts after the lines that a test picks, in their order, or none if a rule is broken
abbrev pub after_tested : (On → Bool) → List On → List ℕ → Option (List ℕ)
after_tested test [] amounts = Some amounts
after_tested test (on ∷ ons) amounts = option_and_then (after_tested test ons) (amounts_after (test on) on amounts)

-- ---- marks of lines

-- the first mark of some, false if there is none
abbrev pub first_mark : List Bool → Bool
first_mark marks = slice_index_or marks 0 false

-- the marks after the first one, or all, if a line has none
abbrev pub marks_after : Bool → List Bool → List Bool
marks_after false marks = marks
marks_after true marks = drop 1 marks

-- the amounts after the lines that have a mark, in their order, or none if a rule is broken; the marks are those of the
-- lines about allowances
abbrev pub after_marked : List Bool → List On → List ℕ → Option (List ℕ)
after_marked marks [] amounts = Some amounts
after_marked marks (on ∷ ons) amounts =
    option_and_then (after_marked (marks_after (is_of_allowance on.effect) marks) ons)
    (amounts_after (is_of_allowance on.effect && first_mark marks) on amounts)
