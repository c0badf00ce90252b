-- When a table of sums is closed beside tables of facts: each place says no more of sums than what leads to it, and
-- totals are not off where what power leaves changes.
use Rattle.std.specs.Prelude.{ℕ, ◌+◌, ◌-◌, Bool, true, false, cond, not, ◌&&◌, ◌||◌, nat_le, ◌==◌, List, [], ◌∷◌, ◌++◌, length, map, flat_map, bytes_eq, Option, Some, None, Result, Ok, Err}
use Rattle.model_prove.specs.model_machine.specs.declared.instruction.Ins.{Ins}
use Rattle.model_prove.specs.model_machine.specs.declared.instruction.DecodeFault.{DecodeFault}
use Rattle.model_prove.specs.model_machine.specs.Code.{instruction_at}
use Rattle.model_prove.specs.model_machine.specs.Primitives.{Around, Then, Exits}
use Rattle.model_prove.specs.model_machine.specs.Chain.{frame_at}
use Rattle.model_prove.specs.model_machine.specs.Shapes.{Shape, shape}
use Rattle.model_prove.specs.model_rules.specs.Rules.{SumLine, Total, AppRules}
use Rattle.model_prove.specs.model_rules.specs.Keeping.{Amounts, Break, OnTurn, after_occasion, line_of, mode_of, first_sums, are_totals}
use Rattle.model_prove.specs.Facts.{Facts}
use Rattle.model_prove.specs.Keys.{PlaceKey, MomentKey, Known, Tables, same_amounts}
use Rattle.model_prove.specs.Splits.{Scene, stand_in, with_values, deciders, later_deciders, Choice, combinations, few_combinations}
use Rattle.model_prove.specs.Reach.{coarse, target_choices, takes_target}
use Rattle.model_prove.specs.Work.{work}
use Rattle.model_prove.specs.Arrivals.{Setting, Arrival, AtPlace, AtMoment, Breaks, Lost, static_size, depths}
use Rattle.model_prove.specs.Steps.{Spot, arounds, primitive_of, inside, coarse_for, coarse_around, place_arrivals}
use Rattle.model_prove.specs.Between.{Class, classes, moment_arrivals}
use Rattle.model_sums.specs.Sums.{Sums, SumsTable, sums_at, first_known, are_even, sums_follow}
use Rattle.model_sums.specs.Moves.{moved, moved_coarsely, after_next}
use Rattle.model_sums.specs.Events.{drops, asks, counted}

-- ---- a turn

-- An instruction at a place: its scene, after its fetch, the place with what is known, and what is known for sums.
pub record Turn : Type 0 where
  pub ins : Ins
  pub scene : Scene
  pub spot : Spot
  pub sums : Sums

-- what is known after the event of a turn whose row leaves this, with this DT and these flags, at a depth
abbrev pub after_event : Setting → Turn → Sums → ℕ → Bool → Bool → ℕ → Sums
after_event s w after dt c z d =
    let k = w.spot.key in
    counted (drops k.protected (mode_of w.ins)) s.rules.totals s.rules.moves (line_of d k.at w.ins dt c z) w.sums.origins after

-- whether no total is off after it, if they are asked
abbrev pub is_settled : Setting → Turn → Sums → Bool
is_settled s w v = not (asks w.spot.key.protected (mode_of w.ins)) || are_even s.rules.totals v.offs

-- whether what is known at a place follows, if the table has it
abbrev pub has_sums : List Total → Sums → Option Sums → Bool
has_sums ts v None = false
has_sums ts v (Some u) = sums_follow ts v u

-- whether an event leads to these allowances
abbrev pub event_leads_to : Result Amounts Break → Amounts → Bool
event_leads_to (Err b) a = false
event_leads_to (Ok b) a = same_amounts b a

-- whether what a turn leaves at a depth is what a place says, if its event leads to the allowances of that place
abbrev pub depth_closed : Setting → SumsTable → Turn → Then → Sums → PlaceKey → ℕ → Bool
depth_closed s u w next after k d =
    let v = after_event s w after k.dt k.c k.z d in
    let o = after_occasion s.rules.ons (OnTurn (line_of d w.spot.key.at w.ins k.dt k.c k.z)) w.spot.key.allowances in
    not (event_leads_to o k.allowances) || (is_settled s w v && has_sums s.rules.totals (after_next next v) (sums_at u k))

-- whether all of a list pass a test
abbrev pub all_pass : {A : Type 0} → (A → Bool) → List A → Bool
all_pass test [] = true
all_pass test (x ∷ xs) = test x && all_pass test xs

-- whether what a turn leaves is what the place says to which an outcome leads, at each depth
abbrev pub arrival_closed : Setting → SumsTable → Turn → Then → Sums → Arrival → Bool
arrival_closed s u w next after (AtPlace k n) = all_pass (depth_closed s u w next after k) (depths w.spot.key.start)
arrival_closed s u w next after a = true

-- whether no total is off after an exit, which leads to no place
abbrev pub exit_settled : Setting → Turn → Shape → Sums → Then → Bool
exit_settled s w h after Exits =
    all_pass (λ d. is_settled s w (after_event s w after h.dt w.spot.key.c w.spot.key.z d)) (depths w.spot.key.start)
exit_settled s w h after next = true

-- whether what a turn's row leaves is what the places say to which its outcomes lead
abbrev pub row_closed : Setting → SumsTable → Turn → Shape → Sums → List Arrival → Bool
row_closed s u w h after arrivals = all_pass (arrival_closed s u w h.next after) arrivals && exit_settled s w h after h.next

-- ---- an instruction

-- by itself, in a scene that stands for the place
abbrev pub turn_closed : Setting → SumsTable → Turn → Around → Bool
turn_closed s u w x =
    let f = w.scene.frame in
    let h = shape w.ins f w.scene.public x in
    row_closed s u w h (moved s.rules.totals w.spot.key w.ins h (work w.ins f w.scene.public) w.sums) (place_arrivals s w.spot.key w.spot.known)

-- With one combination of the bytes that decide it. The outcomes are those of the place as the tables know it, since
-- these are what the tables of facts have.
abbrev pub choice_closed : Setting → SumsTable → Turn → Choice → Bool
choice_closed s u w c =
    all_pass (turn_closed s u (record w { scene = with_values w.scene c })) (arounds w.spot.key.start (primitive_of w.ins))

-- after its first choice, with the bytes that then decide
abbrev pub first_choice_closed : Setting → SumsTable → Turn → Choice → Bool
first_choice_closed s u w c =
    let e = with_values w.scene c in
    all_pass (λ d. choice_closed s u w (c ++ d)) (combinations w.spot.known.bytes (inside e (later_deciders w.ins e.frame)))

-- of too many combinations
abbrev pub coarse_closed : Setting → SumsTable → Turn → Around → Bool
coarse_closed s u w x =
    let f = w.scene.frame in
    let h = shape w.ins f w.scene.public x in
    let c = coarse_for h.act (coarse w.ins f w.spot.known.bytes) in
    row_closed s u w h (moved_coarsely s.rules.totals (record f { dt = h.dt }) c w.sums) (place_arrivals s w.spot.key w.spot.known)

-- by the combinations of the bytes that decide it
abbrev pub choices_closed : Option (List Choice) → Bool → Setting → SumsTable → Turn → Bool
choices_closed (Some cs) jump s u w = all_pass (first_choice_closed s u w) cs
choices_closed None true s u w =
    all_pass (choice_closed s u w) (target_choices w.spot.known.bytes (w.spot.key.dt - 2) (length s.app.code))
choices_closed None false s u w = coarse_closed s u w (coarse_around w.spot.key.start)

-- what was fetched
abbrev pub fetched_closed : Setting → SumsTable → Spot → Sums → Result (Ins × ℕ) DecodeFault → Bool
fetched_closed s u p before (Err fault) = true
fetched_closed s u p before (Ok i) =
    let e = stand_in s.app p.key in
    let g = record e { frame = frame_at e.frame i.1 } in
    let w : Turn = record { ins = i.0; scene = g; spot = p; sums = before } in
    choices_closed (few_combinations p.known.bytes (inside g (deciders i.0 g.frame))) (takes_target i.0) s u w

-- ---- tables

-- the instruction at a place, if the table of sums has it
abbrev pub place_closed : Setting → SumsTable → Spot → Option Sums → Bool
place_closed s u p None = false
place_closed s u p (Some before) = fetched_closed s u p before (instruction_at s.app.code p.key.at)

-- that of each place
abbrev pub places_closed : Setting → SumsTable → List (PlaceKey × Known) → Bool
places_closed s u [] = true
places_closed s u (e ∷ es) = place_closed s u (record { key = e.0; known = e.1 }) (sums_at u e.0) && places_closed s u es

-- whether a place at which a frame begins says no more than what is known then
abbrev pub start_closed : Setting → SumsTable → Arrival → Bool
start_closed s u (AtPlace k n) = has_sums s.rules.totals (first_known s.rules.totals) (sums_at u k)
start_closed s u a = true

-- whether each place does at which a frame begins
abbrev pub starts_closed : Setting → List Class → SumsTable → List (MomentKey × Facts) → Bool
starts_closed s cs u [] = true
starts_closed s cs u (m ∷ ms) = all_pass (start_closed s u) (moment_arrivals s cs m.0 m.1) && starts_closed s cs u ms

-- whether a name is that of a sum
abbrev pub is_sum : Amounts → List ℕ → Bool
is_sum [] name = false
is_sum (x ∷ sums) name = bytes_eq x.0 name || is_sum sums name

-- A table of sums is closed beside tables of facts: lines move sums that there are, the blocks of totals are static
-- bytes, the totals hold when the application is created, and beginnings of frames and outcomes of places lead to
-- places that say no more.
unfoldable pub sums_closed : Setting → Tables → SumsTable → Bool
sums_closed s t u =
    all_pass (λ l. is_sum s.rules.sums l.name) s.rules.moves
    && all_pass (λ t. nat_le (t.at + t.n) (static_size s)) s.rules.totals
    && are_totals s.app.fixed (first_sums s.rules.sums) s.rules.totals
    && starts_closed s (classes s.rules) u t.moments
    && places_closed s u t.places
