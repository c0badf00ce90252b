-- What the events of a line do to the amounts of the allowances.
use Rattle.std.specs.Prelude.{◌≡◌, ℕ, ◌+◌, Bool, true, false, List, [], ◌∷◌, slice_get, Option, Some, None, Result, Ok, Err}
use Rattle.lab_app_rules.specs.model_events.specs.model_text.specs.Text.{◌>>=◌}
use Rattle.lab_app_rules.specs.declared.rules.Event.{Event}
use Rattle.lab_app_rules.specs.declared.rules.Event.TheVariants as event
use Rattle.lab_app_rules.specs.declared.rules.On.{On}
use Rattle.lab_history.specs.declared.course.Deed.{Deed}
use Rattle.lab_history.specs.declared.course.Deed.TheVariants as deed
use Rattle.lab_history.specs.declared.course.Happening.{Happening}
use Rattle.lab_history.specs.declared.course.Course.{Course}
use Rattle.lab_history.specs.declared.course.Extent.{Extent}
use Rattle.lab_history.specs.declared.course.Extent.TheVariants as extent
use Rattle.lab_history.specs.declared.standing.Break.{Break}
use Rattle.lab_history.specs.declared.standing.Break.TheVariants as broken
use Rattle.lab_history.specs.Amounts.{amounts_after}
use Rattle.lab_history.specs.Courses.{has_turn}

-- amounts, or the `on` line with a number is broken
abbrev pub or_broken : ℕ → Option (List ℕ) → Result (List ℕ) Break
or_broken i None = Err (broken.On i)
or_broken i (Some amounts) = Ok amounts

-- the amounts after an `on` line with a number, if there is one
abbrev pub effect_of : Option On → ℕ → List ℕ → Result (List ℕ) Break
effect_of None i amounts = Ok amounts
effect_of (Some o) i amounts = or_broken i (amounts_after o.effect o.name amounts)

-- the amounts after the `on` line with a number
abbrev pub line_effect : List On → ℕ → List ℕ → Result (List ℕ) Break
line_effect ons i amounts = effect_of (slice_get ons i) i amounts

-- the amounts after the `on` lines with these numbers, in order
abbrev pub lines_effect : List On → List ℕ → List ℕ → Result (List ℕ) Break
lines_effect ons [] amounts = Ok amounts
lines_effect ons (i ∷ is) amounts = line_effect ons i amounts >>= λ left. lines_effect ons is left

-- ---- sessions

-- whether an event is that of a session
abbrev pub is_session_event : Event → Bool
is_session_event event.Session = true
is_session_event e = false

-- whether an `on` line is about sessions
abbrev pub is_session : On → Bool
is_session o = is_session_event o.event

-- the amounts after the `on` line with a number, if it is to apply
abbrev pub effect_if : Bool → List On → ℕ → List ℕ → Result (List ℕ) Break
effect_if true ons i amounts = line_effect ons i amounts
effect_if false ons i amounts = Ok amounts

-- the amounts after the lines about sessions, of lines from the one with a number on
abbrev pub session_effect : List On → ℕ → List On → List ℕ → Result (List ℕ) Break
session_effect ons i [] amounts = Ok amounts
session_effect ons i (o ∷ os) amounts = effect_if (is_session o) ons i amounts >>= λ left. session_effect ons (i + 1) os left

-- the amounts after the end or the beginning of a session, if there is one
abbrev pub session_if : Bool → List On → List ℕ → Result (List ℕ) Break
session_if true ons amounts = session_effect ons 0 ons amounts
session_if false ons amounts = Ok amounts

-- ---- along a line

-- the amounts after what an instruction does; sums are no amounts
abbrev pub deed_effect : List On → Deed → List ℕ → Result (List ℕ) Break
deed_effect ons (deed.On i) amounts = line_effect ons i amounts
deed_effect ons (deed.Sum i number) amounts = Ok amounts
deed_effect ons deed.Keep amounts = Ok amounts
deed_effect ons deed.Drop amounts = Ok amounts
deed_effect ons deed.Abend amounts = Err broken.Abend

-- what follows, where an instruction counts
abbrev pub effect_where : Bool → Result (List ℕ) Break → List ℕ → Result (List ℕ) Break
effect_where true rest amounts = rest
effect_where false rest amounts = Ok amounts

-- the amounts after the instructions up to the first that does not count
abbrev pub deeds_effect : List On → Extent → List Happening → List ℕ → Result (List ℕ) Break
deeds_effect ons e [] amounts = Ok amounts
deeds_effect ons e (h ∷ hs) amounts =
    effect_where (has_turn e h.turn) (deed_effect ons h.deed amounts >>= λ left. deeds_effect ons e hs left) amounts

-- the amounts after the answer and the session that begins or ends, or after the stop
abbrev pub end_effect : List On → Course → Extent → List ℕ → Result (List ℕ) Break
end_effect ons c extent.Whole amounts = lines_effect ons c.answer.items amounts >>= λ left. session_if c.has_session ons left
end_effect ons c (extent.Stopped turns durable) amounts = session_if c.was_selected ons amounts

-- The amounts after a line, as far as it came: the command, the instructions that count, and the end.
abbrev pub course_effect : List On → Course → Extent → List ℕ → Result (List ℕ) Break
course_effect ons c e amounts =
    lines_effect ons c.command.items amounts >>= λ after. deeds_effect ons e c.deeds.items after >>= λ left. end_effect ons c e left

-- amounts that are left, or what is broken
abbrev pub ComesTo : Option Break → List ℕ → Result (List ℕ) Break → Type 0
ComesTo None left (Ok amounts) = left ≡ amounts
ComesTo (Some b) left (Err c) = b ≡ c
ComesTo None left (Err c) = ⊥
ComesTo (Some b) left (Ok amounts) = ⊥
