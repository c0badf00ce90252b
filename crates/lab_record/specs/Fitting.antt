-- The `on` lines that fit an event, and what they move.
use Rattle.std.specs.Prelude.{ℕ, ◌+◌, ◌-◌, Bool, true, false, cond, ◌&&◌, ◌||◌, List, [], ◌∷◌, take, drop, slice_get, Option, Some, None}
use Rattle.mc_words.specs.model_device.specs.Bytes.{num}
use Rattle.law_events.specs.law_promise.specs.model_events.specs.Matching.{fits}
use Rattle.lab_app_rules.specs.declared.rules.Amount.{Amount}
use Rattle.lab_app_rules.specs.declared.rules.Amount.TheVariants as amount
use Rattle.lab_app_rules.specs.declared.rules.Effect.{Effect}
use Rattle.lab_app_rules.specs.declared.rules.Effect.TheVariants as effect
use Rattle.lab_app_rules.specs.declared.rules.Event.{Event}
use Rattle.lab_app_rules.specs.declared.rules.Event.TheVariants as event
use Rattle.lab_app_rules.specs.declared.rules.On.{On}

-- whether two events are one
abbrev pub is_event : Event → Event → Bool
is_event event.Turn event.Turn = true
is_event event.Command event.Command = true
is_event event.Answer event.Answer = true
is_event event.Session event.Session = true
is_event a b = false

-- whether an `on` line is about an event, and its first pattern fits a text
abbrev pub is_fitting : Event → List ℕ → On → Bool
is_fitting e text o = is_event o.event e && fits o.pattern.items text

-- the numbers of the lines of an event whose first pattern fits a text, of lines from the one with a number on
abbrev pub fitting_from : ℕ → Event → List ℕ → List On → List ℕ
fitting_from i e text [] = []
fitting_from i e text (o ∷ os) = cond (is_fitting e text o) (i ∷ fitting_from (i + 1) e text os) (fitting_from (i + 1) e text os)

-- the number that an amount is, by the public segment before the instruction
abbrev pub amount_of : Amount → List ℕ → ℕ
amount_of (amount.Number k) public = k
amount_of (amount.Public at n) public = num (take n (drop (at - 0xC000) public))

-- whether an effect is on a sum
abbrev pub is_of_sum : Effect → Bool
is_of_sum (effect.Add a) = true
is_of_sum (effect.Take a) = true
is_of_sum e = false

-- whether a line is about a sum, if there is one
abbrev pub is_sum_line : Option On → Bool
is_sum_line None = false
is_sum_line (Some o) = is_of_sum o.effect

-- whether the line with a number is about a sum
abbrev pub moves_sum : List On → ℕ → Bool
moves_sum ons i = is_sum_line (slice_get ons i)

-- whether some of the lines with these numbers are about a sum
abbrev pub are_sums : List On → List ℕ → Bool
are_sums ons [] = false
are_sums ons (i ∷ is) = moves_sum ons i || are_sums ons is
