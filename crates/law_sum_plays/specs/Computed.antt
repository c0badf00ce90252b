-- Tables of sums of small applications, checked: what worked rows compute.
use Rattle.std.specs.Prelude.{ℕ, zero, suc, Bool, true, false, cond, ◌==◌, List, [], ◌∷◌, map, flat_map, Option, Some, None, Result, Ok, Err}
use Rattle.std.specs.Fmt.{digits}
use Rattle.law_sum_plays.specs.model_device.specs.Pieces.{touched_words}
use Rattle.law_sum_plays.specs.model_machine.specs.Apdu.{apdu_read}
use Rattle.law_sum_plays.specs.model_machine.specs.Frame.{dynamic_base, bytes_at, write_effect, too_many}
use Rattle.law_sum_plays.specs.model_machine.specs.Primitives.{later_causes}
use Rattle.law_sum_plays.specs.model_machine.specs.Row.{causes}
use Rattle.law_sum_plays.specs.model_card.specs.Units.{name_of}
use Rattle.law_sum_plays.specs.model_text.specs.TurnText.{turn_line}
use Rattle.law_sum_plays.specs.model_play.specs.DeckGrammar.{deck_read}
use Rattle.law_sum_plays.specs.model_machine.specs.Shapes.{shape, prim_shape}
use Rattle.law_sum_plays.specs.model_rules.specs.model_events.specs.Matching.{fits}
use Rattle.law_sum_plays.specs.model_rules.specs.Rules.{Target, Total, AppRules}
use Rattle.law_sum_plays.specs.model_rule_text.specs.Reading.{RuleCause, app_rules_read}
use Rattle.law_sum_plays.specs.model_prove.specs.Facts.{Facts}
use Rattle.law_sum_plays.specs.model_prove.specs.Keys.{OfClass, PlaceKey, Known, Tables}
use Rattle.law_sum_plays.specs.model_prove.specs.Arrivals.{Setting, Arrival, AtPlace}
use Rattle.law_sum_plays.specs.model_prove.specs.Steps.{place_arrivals}
use Rattle.law_sum_plays.specs.model_prove.specs.Between.{begun}
use Rattle.law_sum_plays.specs.law_prove_closed.specs.Search.{tables_after}
use Rattle.law_sum_plays.specs.model_sums.specs.Forms.{number}
use Rattle.law_sum_plays.specs.model_sums.specs.Origins.{Origin, with_origins}
use Rattle.law_sum_plays.specs.model_sums.specs.Sums.{Sums, SumsTable, first_known}
use Rattle.law_sum_plays.specs.model_sums.specs.Closed.{sums_closed}

-- what a table of sums says at a place, by the code address, of some totals
abbrev pub Guess : Type 0
Guess = List Total → ℕ → Sums

-- that no total is off, and public bytes are their own
abbrev pub all_even : Guess
all_even ts at = first_known ts

-- with this at an address, and else that
abbrev pub but_at : ℕ → (Sums → Sums) → Guess → Guess
but_at a change guess ts at = cond (at == a) (change (guess ts at)) (guess ts at)

-- a table that knows at each place what a guess says
abbrev pub guessed : (ℕ → Sums) → List (PlaceKey × Known) → SumsTable
guessed guess ps = map (λ p. (p.0, guess p.0.at)) ps

-- the places to which an outcome leads, in at most n instructions
abbrev pub walked : ℕ → Setting → Arrival → List (PlaceKey × Known)
walked zero s a = []
walked (suc n) s (AtPlace k f) = (k, f) ∷ flat_map (walked n s) (place_arrivals s k f)
walked (suc n) s a = []

-- whether a table is closed of the first places of a command of which this is known
abbrev pub walk_closed : ℕ → Facts → Guess → Setting → Bool
walk_closed n f guess s =
    let places = walked n s (begun s (OfClass []) s.rules.allowances f) in
    sums_closed s (record { moments = []; places = places }) (guessed (guess s.rules.totals) places)

-- whether one is beside the tables after at most n steps of the search
abbrev pub search_closed : ℕ → Guess → Setting → Bool
search_closed n guess s =
    let t : Tables = tables_after n s in
    sums_closed s t (guessed (guess s.rules.totals) t.places)

-- of rules with an application
abbrev pub of_target : (Setting → Bool) → AppRules → Option Target → Bool
of_target test r None = false
of_target test r (Some g) = test (record { rules = r; app = g.app })

-- of rules that were read
abbrev pub of_read : (Setting → Bool) → Result AppRules (ℕ × RuleCause) → Bool
of_read test (Err e) = false
of_read test (Ok r) = of_target test r r.target

-- of a deck's text, by the places of a command
unfoldable pub walk_of : ℕ → Facts → Guess → List ℕ → Bool
unfolding digits name_of apdu_read touched_words bytes_at write_effect too_many later_causes causes shape prim_shape turn_line deck_read fits app_rules_read sums_closed
walk_of n f guess text = of_read (walk_closed n f guess) (app_rules_read text)

-- of a deck's text, by the search
unfoldable pub search_of : ℕ → Guess → List ℕ → Bool
unfolding digits name_of apdu_read touched_words bytes_at write_effect too_many later_causes causes shape prim_shape turn_line deck_read fits app_rules_read sums_closed
search_of n guess text = of_read (search_closed n guess) (app_rules_read text)

-- ---- guesses

-- that bytes on top of the session bytes, of which there are none, come from these origins
abbrev pub with_stack : List Origin → Sums → Sums
with_stack gs u = record u { origins = with_origins dynamic_base gs u.origins }

-- that the first byte there is as much more than the first static byte
abbrev pub with_more : ℕ → Sums → Sums
with_more k u = record u { mores = record { at = dynamic_base; from = 0; n = 1; form = number k } ∷ [] }

-- that the only total is off by a number
abbrev pub with_off : ℕ → Sums → Sums
with_off k u = record u { offs = Some (number k) ∷ [] }
