-- Which lines apply to a command and to its answer, as the code computes it on its own lines.
use Rattle.std.specs.Prelude.{ℕ, Bool, true, false, ◌&&◌, ◌||◌, List, [], ◌∷◌, ◌++◌}
use Rattle.lab_app_rules.specs.model_events.specs.Matching.{fits}
use Rattle.lab_app_rules.specs.declared.rules.On.{On}
use Rattle.prove_occasions.specs.Amounts.{first_mark, is_answer, is_command, is_of_allowance, marks_after}

-- a mark, if a line is about an allowance
abbrev pub mark_if : Bool → Bool → List Bool
mark_if false mark = []
mark_if true mark = mark ∷ []

-- whether a class has a mark for a line
abbrev pub has_mark : On → Bool
has_mark on = is_of_allowance on.effect && (is_command on.event || is_answer on.event)

-- whether a line is an `answer` line about an allowance
abbrev pub has_result : On → Bool
has_result on = is_of_allowance on.effect && is_answer on.event

-- for each line about an allowance whether it applies to a command of a class
abbrev pub command_marks : List On → List Bool → List Bool
command_marks [] class = []
command_marks (on ∷ ons) class =
    mark_if (is_of_allowance on.effect) (is_command on.event && first_mark class) ++ command_marks ons (marks_after (has_mark on) class)

-- for each line about an allowance whether it applies to an answer of a command of a class, whose result matches these
-- `answer` lines
abbrev pub answer_marks : List On → List Bool → List Bool → List Bool
answer_marks [] class results = []
answer_marks (on ∷ ons) class results =
    mark_if (is_of_allowance on.effect) (is_answer on.event && (first_mark class && first_mark results))
    ++ answer_marks ons (marks_after (has_mark on) class) (marks_after (has_result on) results)

-- for each `answer` line about an allowance whether its result matches a text
abbrev pub result_marks : List ℕ → List On → List Bool
result_marks text [] = []
result_marks text (on ∷ ons) = mark_if (has_result on) (fits on.result.items text) ++ result_marks text ons
