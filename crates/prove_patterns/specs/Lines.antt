-- The patterns of the lines of the code, as the definition has them.
use Rattle.std.specs.Prelude.{ℕ, Bool, true, false, cond, ◌&&◌, List, [], ◌∷◌, Option, Some, None}
use Rattle.prove_facts.specs.model_prove.specs.Texts.{Open, is_none_left, openings_unless}
use Rattle.lab_app_rules.specs.declared.rules.Event.{Event}
use Rattle.lab_app_rules.specs.declared.rules.Event.TheVariants.{Turn, Command, Answer, Session}
use Rattle.lab_app_rules.specs.declared.rules.On.{On}
use Rattle.lab_app_rules.specs.Rules.{deed_of}

-- a plain pattern before any text; an empty one matches nothing
abbrev pub opened_plain : List ℕ → Open
opened_plain p = openings_unless (is_none_left p) p

-- whether there is one
abbrev pub is_some : {A : Type 0} → Option A → Bool
is_some None = false
is_some (Some a) = true

-- whether an event has the pattern of a command
abbrev pub has_command : Event → Bool
has_command Turn = false
has_command Command = true
has_command Answer = true
has_command Session = false

-- whether an event has the pattern of a result
abbrev pub has_result : Event → Bool
has_result Turn = false
has_result Command = false
has_result Answer = true
has_result Session = false

-- the patterns of commands, of the lines about allowances
abbrev pub command_patterns : List On → List (List ℕ)
command_patterns [] = []
command_patterns (on ∷ ons) =
    cond (is_some (deed_of on.effect) && has_command on.event) (on.pattern.items ∷ command_patterns ons) (command_patterns ons)

-- the patterns of their results
abbrev pub result_patterns : List On → List (List ℕ)
result_patterns [] = []
result_patterns (on ∷ ons) =
    cond (is_some (deed_of on.effect) && has_result on.event) (on.result.items ∷ result_patterns ons) (result_patterns ons)
